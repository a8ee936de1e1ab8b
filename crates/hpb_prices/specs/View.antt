-- What prices are: the price of each node and the least bid on it.
use Rattle.std.specs.Prelude.{◌≡◌, ℕ, ◌<◌, List, length, slice_index}
use Rattle.hpb_rules.specs.Tree.{Node, TreeRules, opening}
use Rattle.hpb_rules.specs.Prices.{price, minimum_of}

-- The price of each node, and the least bid on it.
pub record PricesView : Type 0 where
  pub prices : List ℕ
  pub minima : List ℕ

-- Each price is the one that these high bids give.
abbrev pub HasPrices : List Node → (ℕ → ℕ) → PricesView → Type 0
HasPrices nodes bid priced = (node : ℕ) → node < length nodes → slice_index priced.prices node ≡ price nodes bid node

-- Each least bid is the one that these high bids give.
abbrev pub HasMinima : TreeRules → (ℕ → ℕ) → PricesView → Type 0
HasMinima tree bid priced = (node : ℕ) → node < length tree.nodes → slice_index priced.minima node ≡ minimum_of tree.step tree.percent (opening tree.nodes node) (price tree.nodes bid node)
