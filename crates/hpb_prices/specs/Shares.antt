-- The dollars that a tree passes down.
use Rattle.std.specs.Prelude.{◌≡◌, ℕ, ◌+◌, ◌<◌, List, length, Some, slice_index_or}
use Rattle.hpb_rules.specs.declared.limits.TheConstants.{MOST_NODES}
use Rattle.hpb_rules.specs.Tree.{Node, parent_of, places}
use Rattle.hpb_rules.specs.Prices.{surplus, children_among, carried as carried_to}
use Rattle.hpb_money.specs.Shares.{SharesView, shared}

-- The shares of a package's children: the dollars carried down to the package and its surplus, shared out among them.
abbrev pub passed_on : List Node → (ℕ → ℕ) → ℕ → SharesView
passed_on nodes bid node = shared (carried_to nodes bid node + surplus nodes bid node) (children_among nodes node (places nodes))

-- If the node has a child, these are its shares.
abbrev pub ArePassedOn : List Node → (ℕ → ℕ) → ℕ → SharesView → Type 0
ArePassedOn nodes bid node shares = (child : ℕ) → parent_of nodes child ≡ Some node → shares ≡ passed_on nodes bid node

-- The table has its size, and has for each node before a place the shares that it passes on.
pub record IsPassedDown (nodes : List Node) (bid : ℕ → ℕ) (place : ℕ) (shares : List SharesView) : Type 0 where
  pub count : length shares ≡ MOST_NODES
  pub values : (node : ℕ) (other : SharesView) → node < place → ArePassedOn nodes bid node (slice_index_or shares node other)
