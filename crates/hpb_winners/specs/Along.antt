-- The pass from changed nodes upward.
use Rattle.std.specs.Prelude.{◌≡◌, ℕ, ◌<◌, ◌≤◌, Bool, false, ◌&&◌, List, Some, length, slice_index}
use Rattle.std.specs.List.{count_by, list_any}
use Rattle.hpb_rules.specs.declared.limits.TheConstants.{MOST_AMOUNT, MOST_NODES}
use Rattle.hpb_rules.specs.Tree.{Node, parent_of, places, at_or_under}
use Rattle.hpb_rules.specs.Choices.{is_node, is_top, total, values_from}
use Rattle.hpb_rules.specs.Saved.{has_bit}
use Rattle.hpb_winners.specs.View.{OutcomeView, IsOutcome}

-- The outcome is that of earlier high bids, which differed from these at most on the nodes of a mask.
pub record WasOutcome (nodes : List Node) (bid : ℕ → ℕ) (changed : ℕ) (kept : OutcomeView) : Type 0 where
  pub was : ℕ → ℕ
  pub outcome : IsOutcome nodes was kept
  pub most : (node : ℕ) → was node ≤ MOST_AMOUNT
  pub same : (node : ℕ) → node < length nodes → has_bit changed node ≡ false → was node ≡ bid node

-- Whether a node is at or above some node of a mask.
abbrev pub is_reached : List Node → ℕ → ℕ → Bool
is_reached nodes mask node = list_any (λ other. has_bit mask other && at_or_under nodes node other) (places nodes)

-- How many nodes are at or above some node of a mask.
abbrev pub reached_count : List Node → ℕ → ℕ
reached_count nodes mask = count_by (is_reached nodes mask) (places nodes)

-- Each sum is that of the present values: the sum inside a node is over its children, and the revenue over the top
-- nodes.
pub record AreSums (nodes : List Node) (outcome : OutcomeView) : Type 0 where
  pub insides : length outcome.inside ≡ MOST_NODES
  pub count : length outcome.values ≡ MOST_NODES
  pub inside : (node : ℕ) → node < length nodes → slice_index outcome.inside node ≡ total (is_node node) nodes outcome.values
  pub revenue : outcome.revenue ≡ total is_top nodes outcome.values

-- The values if each node has the greatest possible bid.
abbrev pub greatest_values : List Node → List ℕ
greatest_values nodes = values_from 0 nodes (λ node. MOST_AMOUNT)

-- No value is above the one that it has if each node has the greatest possible bid.
abbrev pub AreSmall : List Node → OutcomeView → Type 0
AreSmall nodes outcome = (node : ℕ) → node < length nodes → slice_index outcome.values node ≤ slice_index (greatest_values nodes) node

-- Each sum stays, except the one inside the parent of a node.
abbrev pub IsOthersSum : List Node → ℕ → List ℕ → List ℕ → Type 0
IsOthersSum nodes node old new = (other : ℕ) → (parent_of nodes node ≡ Some other → ⊥) → slice_index new other ≡ slice_index old other
