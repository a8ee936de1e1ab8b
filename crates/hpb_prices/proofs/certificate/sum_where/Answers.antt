use Rattle.std.proofs.Common.{arith}
use Rattle.hpb_prices.proofs.MaskedSums.{sum_taken, sum_left}
use Rattle.hpb_prices.proofs.certificate.sum_where.Goals.{then-set-place-eq1, else-set-place-eq1}
use Rattle.hpb_prices.proofs.certificate.sum_where.Goals as goal

pub loop-place-preserved : goal.loop-place-preserved
loop-place-preserved c = elim c.if-set-place-eq1.branch [
  | then-set-place-eq1 w ↦ record {
    small = omega (arith, c.type_inv.amounts c.loop-place.place);
    so_far = omega (arith, sum_taken c.args.set c.loop-place.place c.args.amounts.now c.loop-place-test.true w.if-set-place-eq1.true);
  }
  | else-set-place-eq1 w ↦ record {
    small = omega arith;
    so_far = omega (arith, sum_left c.args.set c.loop-place.place c.args.amounts.now c.loop-place-test.true w.if-set-place-eq1.false);
  }
]
