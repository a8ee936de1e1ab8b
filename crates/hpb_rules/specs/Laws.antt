-- The laws of trees, winners and prices: exactly one thing has each defining property, and the computation gives it.
use Rattle.std.specs.Prelude.{◌≡◌, ℕ, suc, ◌+◌, ◌<◌, ◌≤◌, ◌↔◌, max, List, Bool, length, slice_index, Some, None}
use Rattle.std.specs.Bool.{Decides}
use Rattle.std.specs.List.{range_with_len}
use Rattle.hpb_rules.specs.Definitions.{IsDefinition}
use Rattle.hpb_rules.specs.Drafts.{draft_refusal, depth}
use Rattle.hpb_rules.specs.Tree.{Node, Rules, IsTree, IsAtOrUnder, Disjoint, parent_of, places, at_or_under}
use Rattle.hpb_rules.specs.Choices.{IsChoice, IsWinners, IsBest, revenue, winners, best, top_revenue}
use Rattle.hpb_rules.specs.Prices.{IsShares, shares, IsMinimum, minimum_of, Covers, price_of_all, licence_price, price, children_among, surplus, carried}

-- If a thing is defined by a property, the laws say that it has the property, and that nothing else has.
--
-- A property holds of one thing alone: it holds of that thing, and anything else that has it is equal to it.
abbrev pub HoldsAlone : {A : Type 0} → (A → Type 0) → A → Type 0
HoldsAlone {A = A} property value = property value × ((other : A) → property other → other ≡ value)

-- For a count of one or more there is exactly one list of shares, and it is the computed one.
abbrev pub SharesAreOne : Type 0
SharesAreOne = (dollars count : ℕ) → 0 < count → HoldsAlone (IsShares dollars count) (shares dollars count)

-- There is exactly one minimum, and it is the computed one.
abbrev pub MinimumIsOne : Type 0
MinimumIsOne = (step percent opening price : ℕ) → 0 < step → HoldsAlone (IsMinimum step percent opening price) (minimum_of step percent opening price)

-- There is exactly one set of winners, and it is the computed one.
abbrev pub WinnersAreOne : Type 0
WinnersAreOne = (nodes : List Node) (bid : ℕ → ℕ) → IsTree nodes → HoldsAlone (IsWinners nodes bid) (winners nodes bid)

-- The best inside a node is one number, the computed one.
abbrev pub BestIsOne : Type 0
BestIsOne = (nodes : List Node) (bid : ℕ → ℕ) (node : ℕ) → IsTree nodes → node < length nodes → HoldsAlone (IsBest nodes bid node) (best nodes bid node)

-- The computed revenue is that of the winners, and no choice has more.
abbrev pub RevenueIsGreatest : Type 0
RevenueIsGreatest = (nodes : List Node) (bid : ℕ → ℕ) → IsTree nodes
    → (top_revenue nodes bid ≡ revenue bid (winners nodes bid))
    × ((choice : List Bool) → IsChoice nodes bid choice → revenue bid choice ≤ top_revenue nodes bid)

-- If prices cover every high bid and sum to the revenue of a choice, no choice has more.
abbrev pub CoverProves : Type 0
CoverProves = (nodes : List Node) (bid price : ℕ → ℕ) (choice other : List Bool)
    → Covers nodes bid price → IsChoice nodes bid choice → price_of_all nodes price ≡ revenue bid choice
    → IsChoice nodes bid other → revenue bid other ≤ revenue bid choice

-- The licences' prices cover every high bid and sum to the revenue of the winners.
abbrev pub PricesProve : Type 0
PricesProve = (nodes : List Node) (bid : ℕ → ℕ) → IsTree nodes
    → Covers nodes bid (licence_price nodes bid)
    × (price_of_all nodes (licence_price nodes bid) ≡ revenue bid (winners nodes bid))

-- A node's price is its value, which is the greater of its bid and the best inside, and the dollars carried down to it.
abbrev pub PriceIsValue : Type 0
PriceIsValue = (nodes : List Node) (bid : ℕ → ℕ) (node : ℕ) → IsTree nodes → node < length nodes
    → price nodes bid node ≡ max (bid node) (best nodes bid node) + carried nodes bid node

-- The test says whether a node is at or under another.
abbrev pub TestDecides : Type 0
TestDecides = (nodes : List Node) (top node : ℕ) → IsTree nodes → Decides (at_or_under nodes top node) (IsAtOrUnder nodes top node)

-- Two nodes share no licence exactly if neither is at or under the other.
abbrev pub DisjointIsApart : Type 0
DisjointIsApart = (nodes : List Node) (one other : ℕ) → IsTree nodes → one < length nodes → other < length nodes
    → Disjoint nodes one other ↔ ((IsAtOrUnder nodes one other → ⊥) × (IsAtOrUnder nodes other one → ⊥))

-- A draft isn't refused exactly if it is a definition. So a law that asks for a definition that isn't refused asks for
-- all of `IsDefinition`.
abbrev pub AcceptedIsDefinition : Type 0
AcceptedIsDefinition = (rules : Rules) → (draft_refusal rules ≡ None) ↔ IsDefinition rules

-- In a tree the computed depth of a top node is 1, and that of each other node one more than its parent's.
abbrev pub DepthIsOneMore : Type 0
DepthIsOneMore = (nodes : List Node) (node : ℕ) → IsTree nodes
    → (parent_of nodes node ≡ None → depth nodes node ≡ 1)
    × ((parent : ℕ) → parent_of nodes node ≡ Some parent → depth nodes node ≡ suc (depth nodes parent))

-- In a tree no dollars are carried down to a top node. Any other node gets its share, by its place among its parent's
-- children. The dollars shared are those carried down to the parent and the parent's surplus.
abbrev pub CarriedIsShare : Type 0
CarriedIsShare = (nodes : List Node) (bid : ℕ → ℕ) (node : ℕ) → IsTree nodes
    → (parent_of nodes node ≡ None → carried nodes bid node ≡ 0)
    × ((parent : ℕ) → parent_of nodes node ≡ Some parent → carried nodes bid node ≡
    slice_index (shares (carried nodes bid parent + surplus nodes bid parent) (children_among nodes parent (places nodes))) (children_among nodes parent (range_with_len 0 node)))
