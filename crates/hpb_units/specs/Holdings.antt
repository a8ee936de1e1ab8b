-- The licences that each bidder holds, and its activity.
use Rattle.std.specs.Prelude.{◌≡◌, ℕ, ◌<◌, ◌≤◌, Bool, ◌==◌, ◌&&◌, ◌||◌, List, IsSome, slice_index}
use Rattle.hpb_rules.specs.declared.limits.TheConstants.{MOST_BIDDERS, MOST_LICENCE_UNITS}
use Rattle.hpb_rules.specs.Tree.{Node, terms_of, sum_over, at_or_under, units_at}
use Rattle.hpb_tree.specs.Licences.{licence_number}
use Rattle.hpb_bids.specs.View.{BooksView}
use Rattle.hpb_winners.specs.View.{OutcomeView}
use Rattle.hpb_units.specs.Activity.{held, has_licence}

-- A mask of licences and a sum of units for each bidder, and the units of each licence by its number.
pub record HoldingsView : Type 0 where
  pub licences : List ℕ
  pub units : List ℕ
  pub licence_units : List ℕ

-- Whether a bidder holds the licence at a place.
abbrev pub holds : List Node → HoldingsView → ℕ → ℕ → Bool
holds nodes holdings bidder licence = has_licence nodes (slice_index holdings.licences bidder) licence

-- Nobody holds anything.
pub record IsNothing (holdings : HoldingsView) : Type 0 where
  pub licences : (bidder : ℕ) → slice_index holdings.licences bidder ≡ 0
  pub units : (bidder : ℕ) → slice_index holdings.units bidder ≡ 0

-- The table has the units of each licence, at its number.
abbrev pub AreLicenceUnits : List Node → List ℕ → Type 0
AreLicenceUnits nodes table = (licence : ℕ) → IsSome (terms_of nodes licence) → slice_index table (licence_number nodes licence) ≡ units_at nodes licence

-- The units of a bidder are those of the licences that it holds, each counted once, and the table of the licences'
-- units is right.
pub record AreSummed (nodes : List Node) (holdings : HoldingsView) : Type 0 where
  pub sums : (bidder : ℕ) → bidder < MOST_BIDDERS → slice_index holdings.units bidder ≡ sum_over nodes (holds nodes holdings bidder) (units_at nodes)
  pub licences : AreLicenceUnits nodes holdings.licence_units

-- No licence has more units than `MOST_LICENCE_UNITS`.
abbrev pub AreSmall : List Node → Type 0
AreSmall nodes = (licence : ℕ) → units_at nodes licence ≤ MOST_LICENCE_UNITS

-- Each bidder holds the licences at or under the nodes on which it bid in the open round or which it won at the last
-- close.
pub record AreHoldings (nodes : List Node) (books : BooksView) (outcome : OutcomeView) (holdings : HoldingsView) : Type 0 where
  pub licences : (bidder licence : ℕ) → bidder < MOST_BIDDERS → IsSome (terms_of nodes licence) → holds nodes holdings bidder licence ≡ held nodes books outcome bidder licence
  pub summed : AreSummed nodes holdings

-- A bidder holds the licences at or under one node more, and nothing else changes.
abbrev pub HoldsMore : List Node → HoldingsView → HoldingsView → ℕ → ℕ → Type 0
HoldsMore nodes old new bidder node =
    (other licence : ℕ) → IsSome (terms_of nodes licence) → holds nodes new other licence ≡ (holds nodes old other licence || ((bidder == other) && at_or_under nodes node licence))
