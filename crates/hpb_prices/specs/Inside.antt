-- The prices of the code as definitions see them.
use Rattle.std.specs.Prelude.{◌≡◌, length}
use Rattle.hpb_rules.specs.declared.limits.TheConstants.{MOST_NODES}
use Rattle.hpb_prices.specs.View.{PricesView}
use Rattle.hpb_prices.specs.declared.prices.Prices.TheInside.{Inside}

-- The code's tables, except the one that is used only while prices are found.
abbrev pub prices_view : Inside → PricesView
prices_view p = record { prices = p.prices.items; minima = p.minima.items }

-- Each table has a place for each node that a tree can have.
pub record IsKept (p : Inside) : Type 0 where
  pub prices : length p.prices.items ≡ MOST_NODES
  pub minima : length p.minima.items ≡ MOST_NODES
  pub shares : length p.shares.items ≡ MOST_NODES
