use Rattle.std.proofs.Common.{◌∙◌, ap}
use Rattle.rtrb.specs.Ring.{received}
use Rattle.hpb_rings.specs.Gathering.{gathered}
use Rattle.hpb_rings.proofs.Gathering.{gathered-on, halts-same}
use Rattle.hpb_rings.proofs.intake.Intake.waiting.Goals as goal

pub loop-i-preserved : goal.loop-i-preserved
loop-i-preserved g c =
    let rs = c.loop-i.self.rings.items in
    let olds = gathered c.args.self.now.rings.items in
    let looked = c.waiting.new.self in
    let cur = c.index_mut.result.now in
    let inv = c.loop-i.invariant in (
      gathered-on rs c.loop-i.i looked cur olds (c.waiting.ensures.same.0 ∙ ap (λ r. received r.letters) c.index_mut.ensures.value) inv.0,
      halts-same rs c.loop-i.i looked cur (c.waiting.ensures.same.1 ∙ ap (λ r. r.halts) c.index_mut.ensures.value) ∙ inv.1,
      inv.2,
    )
