use Rattle.std.proofs.Common.{subst}
use Rattle.hpb_journal.specs.Frames.{IsRead, batch_at}
use Rattle.hpb_journal.specs.declared.frame.Frame.{Frame}
use Rattle.hpb_recover.specs.Plans.{layout_in}
use Rattle.hpb_recover.proofs.doubts.is_own.Goals as goal

pub returns-in-Batch : goal.returns-in-Batch
returns-in-Batch c index image read =
    let plan = c.args.plan.now in
    let layout = layout_in plan in
    let batch = c.in-Batch.field-0 in
    let is = subst (λ (frame : Frame). IsRead layout plan.auction.rules index image frame) c.in-Batch.is read in
    (is.1.0, c.laws.ensures.indexed plan.auction.rules (layout.body index image) (batch_at index batch.first batch.commands) is.1.1)
