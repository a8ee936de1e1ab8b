use Rattle.std.proofs.Common.{arith, length-drop}
use Rattle.std.proofs.lemmas.List.{take_rest}
use Rattle.hpb_server.proofs.Writing.{wrote_more}
use Rattle.hpb_server.proofs.output.put.Goals as goal

pub parts-preserved : goal.parts-preserved
parts-preserved g c =
    let told = rw (take_rest c.args.bytes.now c.parts.at) at c.in_ok-at.ensures.bytes in
    let inv = c.parts.invariant in
    (omega (arith, told.1, inv.0, length-drop c.parts.at c.args.bytes.now), wrote_more _ _ _ c.args.bytes.now c.parts.at c.in_ok-at.field-0 inv.1 told.2)
