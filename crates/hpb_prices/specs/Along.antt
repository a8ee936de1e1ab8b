-- The pass that updates the prices that changed.
use Rattle.std.specs.Prelude.{◌≡◌, ℕ, ◌<◌, List, length, slice_index}
use Rattle.hpb_rules.specs.Tree.{TreeRules, opening}
use Rattle.hpb_rules.specs.Prices.{minimum_of}
use Rattle.hpb_prices.specs.View.{PricesView, HasPrices, HasMinima}

-- The prices and the least bids are those of earlier high bids.
pub record WasPriced (tree : TreeRules) (kept : PricesView) : Type 0 where
  pub was : ℕ → ℕ
  pub prices : HasPrices tree.nodes was kept
  pub minima : HasMinima tree was kept

-- Each least bid is the one at the present price.
abbrev pub AreMinima : TreeRules → List ℕ → List ℕ → Type 0
AreMinima tree prices minima = (node : ℕ) → node < length tree.nodes → slice_index minima node ≡ minimum_of tree.step tree.percent (opening tree.nodes node) (slice_index prices node)
