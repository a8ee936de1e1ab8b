-- Prices and winners as a certificate lists them.
use Rattle.std.specs.Prelude.{◌≡◌, ℕ, suc, ◌+◌, ◌^◌, ◌<◌, ◌==◌, Bool, List, [], ◌∷◌, map, length, cond, slice_index}
use Rattle.std.specs.Int.{bit_at}
use Rattle.hpb_rules.specs.Tree.{Node, places, IsInside}
use Rattle.hpb_rules.specs.Prices.{IsCertificate}
use Rattle.hpb_tree.specs.Licences.{licence_count, licence_number}

-- The sum of the amounts whose bits are set. The bit of the first amount is at a given place.
abbrev pub sum_where : ℕ → ℕ → List ℕ → ℕ
sum_where set place [] = 0
sum_where set place (amount ∷ amounts) = cond (bit_at set place == 1) amount 0 + sum_where set (suc place) amounts

-- The high bid of a node in a list of high bids.
abbrev pub bid_listed : List ℕ → ℕ → ℕ
bid_listed highs node = slice_index highs node

-- The price of the licence at a place: the list has the licences' prices in their order.
abbrev pub price_listed : List Node → List ℕ → ℕ → ℕ
price_listed nodes prices licence = slice_index prices (licence_number nodes licence)

-- The nodes whose bits are set.
abbrev pub set_of : List Node → ℕ → List Bool
set_of nodes winners = map (λ node. bit_at winners node == 1) (places nodes)

-- Some winner stands above the node.
abbrev pub IsBelowWinner : List Node → ℕ → ℕ → Type 0
IsBelowWinner nodes winners node = (winner : ℕ) × (bit_at winners winner ≡ 1) × IsInside nodes winner node

-- The lists have the right lengths, each bit is a node's, and the bids, prices and winners are a certificate.
pub record Certifies (nodes : List Node) (highs prices : List ℕ) (winners : ℕ) : Type 0 where
  pub bids : length highs ≡ length nodes
  pub licences : length prices ≡ licence_count nodes
  pub within : winners < 2 ^ length nodes
  pub certificate : IsCertificate nodes (bid_listed highs) (price_listed nodes prices) (set_of nodes winners)
