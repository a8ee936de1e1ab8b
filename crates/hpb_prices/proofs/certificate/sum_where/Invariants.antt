use Rattle.std.proofs.Common.{◌≡◌, ◌+◌, ◌*◌, ◌^◌, ◌≤◌, drop}
use Rattle.hpb_prices.specs.Certificate.{sum_where}
use Rattle.hpb_prices.proofs.certificate.sum_where.Given as goal

abbrev pub invariant-loop-place : goal.invariant-loop-place
invariant-loop-place l = record {
  small : l.sum ≤ l.place * 2 ^ 64;
  so_far : l.sum + sum_where l.set l.place (drop l.place l.amounts) ≡ sum_where l.set 0 l.amounts;
}
