-- The holdings of the code as definitions see them.
use Rattle.std.specs.Prelude.{◌≡◌, length}
use Rattle.hpb_rules.specs.declared.limits.TheConstants.{MOST_BIDDERS, MOST_LICENCES}
use Rattle.hpb_units.specs.Holdings.{HoldingsView}
use Rattle.hpb_units.specs.declared.holdings.Holdings.TheInside.{Inside}

-- The holdings that the code's tables stand for.
abbrev pub holdings_view : Inside → HoldingsView
holdings_view h = record { licences = h.licences.items; units = h.units.items; licence_units = h.licence_units.items }

-- Each table has its full size: a place for each bidder, or for each licence, that a definition can have.
pub record IsKept (h : Inside) : Type 0 where
  pub licences : length h.licences.items ≡ MOST_BIDDERS
  pub units : length h.units.items ≡ MOST_BIDDERS
  pub licence_units : length h.licence_units.items ≡ MOST_LICENCES
