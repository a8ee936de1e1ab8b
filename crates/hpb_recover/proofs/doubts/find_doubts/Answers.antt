use Rattle.std.proofs.Common.{subst, arith}
use Rattle.hpb_rules.specs.Tree.{Rules}
use Rattle.hpb_slots.specs.declared.slot.Slot.{Slot}
use Rattle.hpb_slots.specs.Slots.{other_of}
use Rattle.hpb_slots.specs.Reading.{IsToldOf}
use Rattle.hpb_recover.specs.Plans.{layout_in}
use Rattle.hpb_recover.proofs.Quietly.{of_calls}
use Rattle.hpb_recover.proofs.Reading.{ends, no_reads, of_memory, read_failed, reads_done, reads_on}
use Rattle.hpb_recover.proofs.doubts.find_doubts.Goals as goal

pub returns-in_err-body-clause-reads : goal.returns-in_err-body-clause-reads
returns-in_err-body-clause-reads g c = ends c.from_residual.result (of_memory c.from_residual.result c.from_residual.ensures.1) (omega arith) no_reads

pub returns-in_err-slot-clause-reads : goal.returns-in_err-slot-clause-reads
returns-in_err-slot-clause-reads g c =
    let read = c.read_broken.ensures in
    read_failed c.from_residual-in_err-slot.result c.from_residual-in_err-slot.ensures.1 (omega arith) (of_calls read.unchanged read.reads.few) c.in_err-slot.ensures.reads

-- The other slot is read, and then each frame.
pub returns-in_err-frame-clause-reads : goal.returns-in_err-frame-clause-reads
returns-in_err-frame-clause-reads g c =
    let read = c.read_broken.ensures in
    let told = c.from_residual-in_err-frame in
    reads_on {more = (layout_in c.args.plan.now).count} told.result (omega arith) (reads_done (of_calls read.unchanged read.reads.few) c.in_ok-slot.ensures.reads)
    (read_failed told.result told.ensures.1 (omega arith) c.find_later.ensures.quiet c.in_err-frame.ensures.reads)

pub returns-clause-reads : goal.returns-clause-reads
returns-clause-reads g c =
    let read = c.read_broken.ensures in
    reads_on {more = (layout_in c.args.plan.now).count} _ (omega arith) (reads_done (of_calls read.unchanged read.reads.few) c.in_ok-slot.ensures.reads)
    (ends _ tt (omega arith) (reads_done c.find_later.ensures.quiet c.in_ok-frame.ensures.reads))

pub returns-clause-slot : goal.returns-clause-slot
returns-clause-slot g c =
    let image = (g.D.Disk.device c.args.disk.now).seen in
    let told = c.in_ok-slot.slot in
    let there = subst (λ (slot : Slot). IsToldOf c.definition.result.now slot image told) c.other.ensures c.in_ok-slot.ensures.broken in
    subst (λ (rules : Rules). IsToldOf rules (other_of c.args.plan.now.slot) image told) c.definition.ensures there
