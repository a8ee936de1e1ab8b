use Rattle.std.proofs.Common.{◌+◌, ◌<◌, ap, sym, ◌∙◌, arith}
use Rattle.std.proofs.lemmas.List.{take_all}
use Rattle.hpb_tree.specs.Keys.{number}
use Rattle.hpb_tree.proofs.Keys.{number_none, number_more, bound_more, bound_fits}
use Rattle.hpb_tree.proofs.key.number.Goals as goal

pub overflow_mul-number : goal.overflow_mul-number
overflow_mul-number c = omega (arith, bound_fits _ _ (bound_more c.loop-byte.number 0 c.loop-byte.byte-index c.loop-byte.invariant.1 (omega arith)) (omega arith))

pub overflow_add-number : goal.overflow_add-number
overflow_add-number c = omega (arith, bound_fits _ (c.loop-byte.byte-index + 1) (bound_more c.loop-byte.number c.from.result c.loop-byte.byte-index c.loop-byte.invariant.1 (omega (arith, c.type_inv.bytes c.loop-byte.byte-index))) (omega arith))

pub loop-byte-preserved : goal.loop-byte-preserved
loop-byte-preserved c =
    let byte : c.from.result < 256 = omega (arith, c.type_inv.bytes c.loop-byte.byte-index) in (
      rw (c.loop-byte.invariant.0, c.from.ensures) (sym (number_more c.args.bytes.now c.loop-byte.byte-index c.loop-byte-test.true)),
      bound_more c.loop-byte.number c.from.result c.loop-byte.byte-index c.loop-byte.invariant.1 byte,
    )

pub loop-byte-init : goal.loop-byte-init
loop-byte-init c = (sym number_none, omega arith)

pub returns : goal.returns
returns c = c.loop-byte.invariant.0 ∙ ap number (take_all c.loop-byte.byte-index c.args.bytes.now c.loop-byte-test.false)
