use Rattle.std.proofs.Common.{ℕ, ◌<◌, ◌≤◌}
use Rattle.hpb_rules.specs.Tree.{sum_over, at_or_under}
use Rattle.hpb_prices.specs.Certificate.{bid_listed, price_listed}
use Rattle.hpb_prices.proofs.certificate.are_covered.Given as goal

abbrev pub invariant-loop-place : goal.invariant-loop-place
invariant-loop-place l = (n : ℕ) → n < l.place → bid_listed l.highs n ≤ sum_over l.tree.nodes (λ m. at_or_under l.tree.nodes n m) (price_listed l.tree.nodes l.prices)
