-- The prices of a tree without a bid.
use Rattle.std.proofs.Common.{◌≡◌, ℕ, ◌<◌, List, length, get_or, replicate, sym, ap, ◌∙◌, arith}
use Rattle.hpb_rules.specs.declared.limits.TheConstants.{MOST_NODES}
use Rattle.hpb_rules.specs.Tree.{Node, IsTree, opening}
use Rattle.hpb_rules.specs.Prices.{price, minimum_of}
use Rattle.hpb_rules.proofs.Lists.{get_or-replicate_same}
use Rattle.hpb_rules.proofs.Loops.{price_bound}
use Rattle.hpb_winners.specs.View.{no_bid}

price_none : (nodes : List Node) (n : ℕ) → IsTree nodes → price nodes no_bid n ≡ 0
price_none nodes n tree = omega (arith, price_bound nodes no_bid tree 0 n (λ m. omega arith))

module _ (nodes : List Node) (tree : IsTree nodes) where
  pub prices_none : {prices : List ℕ} → prices ≡ replicate MOST_NODES 0 → (n : ℕ) → n < length nodes → get_or prices n 0 ≡ price nodes no_bid n
  prices_none zeros n h = ap (λ xs. get_or xs n 0) zeros ∙ get_or-replicate_same MOST_NODES n 0 ∙ sym (price_none nodes n tree)

  -- the least bids at a price of 0
  pub minima_none : (step percent : ℕ) {written minima : List ℕ} → minima ≡ written
      → ((n : ℕ) → n < length nodes → get_or written n 0 ≡ minimum_of step percent (opening nodes n) 0)
      → (n : ℕ) → n < length nodes → get_or minima n 0 ≡ minimum_of step percent (opening nodes n) (price nodes no_bid n)
  minima_none step percent m w n h = ap (λ xs. get_or xs n 0) m ∙ w n h ∙ ap (minimum_of step percent (opening nodes n)) (sym (price_none nodes n tree))
