use Rattle.std.proofs.Common.{◌<◌, ◌∙◌, ◌+◌, ◌%◌, length, arith, subst, ap, vec_len, slice_index_or}
use Rattle.rtrb.specs.Ring.{received}
use Rattle.hpb_rings.specs.Slips.{commands}
use Rattle.hpb_rings.specs.Gathering.{gathered, Drained}
use Rattle.hpb_rings.proofs.Gathering.{poured, halts-same, drained-seats}
use Rattle.hpb_rings.proofs.intake.Intake.gather.Goals as goal

pub loop-i-preserved : goal.loop-i-preserved
loop-i-preserved g c =
    let rs = c.loop-i.self.rings.items in
    let olds = gathered c.args.self.now.rings.items in
    let k = (c.args.self.now.first % c.len-count.result + c.loop-i.i) % c.len-count.result in
    let y = c.drain.new.ring in
    let cur = c.index_mut.result.now in
    let inv = c.loop-i.invariant in
    let below : k < c.len-count.result = omega (arith, c.loop-i-test.true) in
    let lt : k < length rs = omega (arith, below, inv.2, c.loop-i.self.rings.ok, c.args.self.now.rings.ok, c.len-count.ensures) in
    let seat : k < vec_len c.args.self.now.rings = omega (arith, below, c.len-count.ensures) in
    let drained = c.drain.ensures.drained in
    let ls = c.loop-i.letters in
    let ls' = c.drain.new.letters in
    let moved : Drained k (commands (received (slice_index_or rs k cur).letters)) (commands (received y.letters)) ls ls' = subst (λ r. Drained k (commands (received r.letters)) (commands (received y.letters)) ls ls') c.index_mut.ensures.value drained in (
      poured rs olds k y cur ls ls' lt moved inv.0,
      drained-seats k (vec_len c.args.self.now.rings) (commands (received cur.letters)) (commands (received y.letters)) ls ls' seat drained inv.1,
      inv.2,
      halts-same rs k y cur (c.drain.ensures.same.0 ∙ ap (λ r. r.halts) c.index_mut.ensures.value) ∙ inv.3,
    )
