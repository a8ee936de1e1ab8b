-- What an outcome is: values, winners and revenue of the high bids on a tree.
use Rattle.std.specs.Prelude.{◌≡◌, ℕ, zero, suc, ◌<◌, List, map, Bool, true, not, ◌&&◌, nat_lt, Option, Some, None, length, slice_index, slice_index_or, max}
use Rattle.std.specs.List.{range_with_len}
use Rattle.hpb_rules.specs.declared.limits.TheConstants.{MOST_NODES}
use Rattle.hpb_rules.specs.Tree.{Node, parent_of}
use Rattle.hpb_rules.specs.Choices.{is_in, best, winners, revenue}
pub use Rattle.hpb_bids.specs.View.{no_bid}

-- For each node its parent, the best revenue inside it, its value and whether it wins. Besides, the winners' revenue,
-- and how many values were formed since the pass that found it began.
pub record OutcomeView : Type 0 where
  pub parents : List (Option ℕ)
  pub inside : List ℕ
  pub values : List ℕ
  pub wins : List Bool
  pub revenue : ℕ
  pub formed : ℕ

-- A node is ahead if its value is greater than the best revenue inside it: that value is its own bid.
abbrev pub is_ahead : List ℕ → List ℕ → ℕ → Bool
is_ahead inside values node = nat_lt (slice_index inside node) (slice_index values node)

-- The test's answer for a parent, or true if there is no parent.
abbrev pub or_top : Option ℕ → (ℕ → Bool) → Bool
or_top None test = true
or_top (Some parent) test = test parent

-- Whether going up from a node, by no more steps than a given number, meets no node that passes a test.
abbrev pub is_free_within : List (Option ℕ) → (ℕ → Bool) → ℕ → ℕ → Bool
is_free_within parents test zero node = true
is_free_within parents test (suc steps) node = or_top (slice_index_or parents node None) (λ parent. not (test parent) && is_free_within parents test steps parent)

-- Whether no node above a node passes a test. A parent stands before its children, so the way up has at most as many
-- steps as the node's place.
abbrev pub is_free : List (Option ℕ) → (ℕ → Bool) → ℕ → Bool
is_free parents test node = is_free_within parents test node node

-- The winners, from the kept tables: a node wins if it is ahead and no node above it is.
abbrev pub wins_of : List (Option ℕ) → List ℕ → List ℕ → List Bool
wins_of parents inside values = map (λ node. is_ahead inside values node && is_free parents (is_ahead inside values) node) (range_with_len 0 MOST_NODES)

-- The kept parents are those of the nodes.
abbrev pub AreParents : List Node → List (Option ℕ) → Type 0
AreParents nodes parents = (node : ℕ) → node < length nodes → slice_index_or parents node None ≡ parent_of nodes node

-- Each kept parent stands before its children.
abbrev pub AreBefore : List (Option ℕ) → Type 0
AreBefore parents = (node parent : ℕ) → slice_index_or parents node None ≡ Some parent → parent < node

-- The outcome is that of these high bids, at the places of the nodes.
pub record IsOutcome (nodes : List Node) (bid : ℕ → ℕ) (outcome : OutcomeView) : Type 0 where
  pub parents : AreParents nodes outcome.parents
  pub inside : (node : ℕ) → node < length nodes → slice_index outcome.inside node ≡ best nodes bid node
  pub values : (node : ℕ) → node < length nodes → slice_index outcome.values node ≡ max (bid node) (best nodes bid node)
  pub wins : (node : ℕ) → node < length nodes → is_in outcome.wins node ≡ is_in (winners nodes bid) node
  pub revenue : outcome.revenue ≡ revenue bid (winners nodes bid)
