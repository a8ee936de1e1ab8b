use Rattle.std.proofs.Common.{ℕ, List, Option, refl, sym, ◌∙◌, ap, subst, arith}
use Rattle.std.specs.Prelude.{Result, Ok, Err}
use Rattle.hpb_codec.specs.declared.layout.JournalShape.{JournalShape}
use Rattle.hpb_journal.specs.Shapes.{shape_of, shaped}
use Rattle.hpb_recover.specs.declared.cause.Cause.{Cause}
use Rattle.hpb_recover.specs.declared.journal.Journal.{Journal}
use Rattle.hpb_recover.specs.declared.plan.Plan.{Plan}
use Rattle.hpb_recover.specs.Causes.{OnlyReads}
use Rattle.hpb_recover.specs.Checkpoints.{IsCheckpoint}
use Rattle.hpb_recover.specs.Replaying.{AreKnown, IsBroken, IsWhole}
use Rattle.hpb_recover.specs.Quiet.{reads_in}
use Rattle.hpb_recover.proofs.Quietly.{frames_here, named_here}
use Rattle.hpb_recover.proofs.Planning.{damaged, found, reads, is_plan_of, plan_of_one, cause_of_checkpoint, cause_of_journal}
use Rattle.hpb_recover.proofs.Reading.{ends, reads_on, told_on}
use Rattle.hpb_recover.proofs.opening.read_plan.Given.{Over}
use Rattle.hpb_recover.proofs.opening.read_plan.Goals.{After-read_journal, In-Ok, In-Ok-Some}
use Rattle.hpb_recover.proofs.opening.read_plan.Goals as goal

-- The reads of head, checkpoint and journal, by how the last of them ends.
all_reads : (g : Over) (c : After-read_journal g) (told : Result (Option Journal) Cause)
    → OnlyReads told (shaped (shape_of c.new-frames.result)).count (g.D.Disk.device c.read_checkpoint.new.disk) (g.D.Disk.device c.read_journal.new.disk)
    → OnlyReads told (reads_in (g.D.Disk.device c.args.disk.now).seen) (g.D.Disk.device c.args.disk.now) (g.D.Disk.device c.read_journal.new.disk)
all_reads g c told journal =
    let head = c.in_ok-head in
    let image = (g.D.Disk.device c.args.disk.now).seen in
    let room = frames_here image head.head.journal (named_here c.layout_is_named.ensures head.head image head.ensures.laid.spelled) head.ensures.laid.size in
    reads_on {few = 6} told (omega (arith, room)) (reads_on (Ok c.in-Ok.checkpoint) (omega arith) head.ensures.reads c.in-Ok.ensures.reads)
    (subst (λ (s : JournalShape). OnlyReads told s.frames (g.D.Disk.device c.read_checkpoint.new.disk) (g.D.Disk.device c.read_journal.new.disk)) c.new-frames.ensures journal)

-- The newest checkpoint is that of the image.
newest_read : (g : Over) (c : In-Ok g) → IsCheckpoint c.in_ok-head.head.definition c.in-Ok.checkpoint.newest c.in-Ok.checkpoint.auction (g.D.Disk.device c.args.disk.now).seen
newest_read g c = subst (IsCheckpoint c.in_ok-head.head.definition c.in-Ok.checkpoint.newest c.in-Ok.checkpoint.auction) c.read_head.ensures.reads.quiet.same c.in-Ok.ensures.checkpoint

-- The plan that is returned if all is read.
abbrev plan_read : (g : Over) → In-Ok-Some g → Plan
plan_read g c = record {
  frames = c.new-frames.result;
  slot = c.in-Ok.checkpoint.newest.slot;
  other_open = c.in-Ok.checkpoint.newest.other_open;
  covered = c.in-Ok.checkpoint.newest.index;
  next = c.in-Ok-Some.journal.next;
  clean_end = c.in-Ok-Some.journal.clean_end;
  gates = c.in-Ok-Some.journal.gates;
  auction = c.read_journal.new.auction;
}

-- The journal of the image is whole, and leads to the auction of the plan, in the layout of these frames or of the
-- head.
abbrev IsWholeBy : (g : Over) → In-Ok-Some g → JournalShape → List ℕ → Type 0
IsWholeBy g c shape image = IsWhole (shaped shape) c.in-Ok.checkpoint.newest.index c.in-Ok.checkpoint.auction image c.in-Ok-Some.journal.next c.read_journal.new.auction

abbrev AreKnownBy : (g : Over) → In-Ok-Some g → List ℕ → Type 0
AreKnownBy g c image =
    let journal = c.in-Ok-Some.journal in
    AreKnown (shaped (shape_of c.new-frames.result)) c.in-Ok.checkpoint.newest.index image journal.next journal.clean_end journal.gates.items

whole_read : (g : Over) (c : In-Ok-Some g) → IsWholeBy g c (shape_of c.new-frames.result) (g.D.Disk.device c.args.disk.now).seen × AreKnownBy g c (g.D.Disk.device c.args.disk.now).seen
whole_read g c =
    subst (λ (image : List ℕ). IsWholeBy g c (shape_of c.new-frames.result) image × AreKnownBy g c image)
    (c.read_checkpoint.ensures.reads.quiet.same ∙ c.read_head.ensures.reads.quiet.same) (rw c.in-Ok-Some.field-0-is at c.in-Ok-Some.ensures.journal)

pub returns-in-Err-clause-reads : goal.returns-in-Err-clause-reads
returns-in-Err-clause-reads g c = told_on (reads_on (Err c.in-Err.cause) (omega arith) c.in_ok-head.ensures.reads c.in-Err.ensures.reads)

pub returns-in-Err-clause-cause : goal.returns-in-Err-clause-cause
returns-in-Err-clause-cause g c =
    let d = g.D.Disk in
    cause_of_checkpoint c.in_ok-head.head (d.device c.args.disk.now) (d.device c.read_head.new.disk) (d.device c.read_checkpoint.new.disk) c.in_ok-head.ensures.formatted c.in_ok-head.ensures.laid
    c.in_ok-head.ensures.reads.quiet.same c.in_ok-head.ensures.reads.works c.in-Err.cause c.in-Err.ensures.cause

pub returns-in-Err-read_journal-clause-reads : goal.returns-in-Err-read_journal-clause-reads
returns-in-Err-read_journal-clause-reads g c =
    told_on (all_reads g (goal.at.returns-in-Err-read_journal-clause-reads g c).After-read_journal (Err c.in-Err-read_journal.cause) c.in-Err-read_journal.ensures.reads)

pub returns-in-Err-read_journal-clause-cause : goal.returns-in-Err-read_journal-clause-cause
returns-in-Err-read_journal-clause-cause g c =
    let d = g.D.Disk in
    cause_of_journal (d.device c.args.disk.now) (d.device c.read_checkpoint.new.disk) (d.device c.read_journal.new.disk) (c.in-Ok.ensures.reads.works ∙ c.in_ok-head.ensures.reads.works)
    c.in-Err-read_journal.cause c.in-Err-read_journal.ensures.cause

pub returns-in-Ok-None-clause-reads : goal.returns-in-Ok-None-clause-reads
returns-in-Ok-None-clause-reads g c = ends _ (λ no. absurd (cc)) (omega arith) (all_reads g (goal.at.returns-in-Ok-None-clause-reads g c).After-read_journal (Ok c.in-Ok-None.field-0) c.in-Ok-None.ensures.reads)

pub returns-in-Ok-None-clause-cause : goal.returns-in-Ok-None-clause-cause
returns-in-Ok-None-clause-cause g c =
    let image = (g.D.Disk.device c.args.disk.now).seen in
    let newest = c.in-Ok.checkpoint.newest in
    let value = c.in-Ok.checkpoint.auction in
    let broken = rw c.in-Ok-None.field-0-is at c.in-Ok-None.ensures.journal in
    let here = subst (IsBroken (shaped (shape_of c.new-frames.result)) newest.index value) (c.read_checkpoint.ensures.reads.quiet.same ∙ c.read_head.ensures.reads.quiet.same) broken in
    damaged c.in_ok-head.head newest image c.in_ok-head.ensures.formatted c.in_ok-head.ensures.laid value (newest_read g (goal.at.returns-in-Ok-None-clause-cause g c).In-Ok)
    (subst (λ (s : JournalShape). IsBroken (shaped s) newest.index value image) c.new-frames.ensures here)

pub returns-clause-found : goal.returns-clause-found
returns-clause-found g c =
    let all = (goal.at.returns-clause-found g c).In-Ok-Some in
    let head = c.in_ok-head.head in
    let newest = c.in-Ok.checkpoint.newest in
    let image = (g.D.Disk.device c.args.disk.now).seen in
    let value = c.in-Ok.checkpoint.auction in
    let checkpoint = newest_read g (goal.at.returns-clause-found g c).In-Ok in
    let plan = plan_read g all in
    let whole = subst (λ (shape : JournalShape). IsWholeBy g all shape image) c.new-frames.ensures (whole_read g all).0 in
    let f = c.in_ok-head.ensures.formatted in
    let l = c.in_ok-head.ensures.laid in
    let one = c.reading_is_one.ensures in (
      found head newest image f l value checkpoint plan.next plan.auction whole.leads,
      reads head newest image f l value checkpoint one plan c.new-frames.ensures refl refl refl whole,
      is_plan_of head newest image f l value checkpoint one plan c.new-frames.ensures refl refl refl whole,
    )

pub returns-clause-plan : goal.returns-clause-plan
returns-clause-plan g c =
    let all = (goal.at.returns-clause-plan g c).In-Ok-Some in
    let image = (g.D.Disk.device c.args.disk.now).seen in
    let there = whole_read g all in
    let known = there.1 in
    let checkpoint = newest_read g (goal.at.returns-clause-plan g c).In-Ok in
    record {
      size = c.in_ok-head.ensures.laid.size ∙ ap (λ (s : JournalShape). (shaped s).size) (sym c.new-frames.ensures);
      few = checkpoint.covered;
      follows = omega (arith, there.0.leads.count);
      clean = known.clean_ones;
      other = checkpoint.other;
      gates = known.gates;
      all = known.all;
      reads = plan_of_one c.in_ok-head.head c.in-Ok.checkpoint.newest image c.in_ok-head.ensures.formatted c.in_ok-head.ensures.laid
          c.in-Ok.checkpoint.auction checkpoint c.reading_is_one.ensures (plan_read g all) c.new-frames.ensures refl refl refl (subst (λ (shape : JournalShape). IsWholeBy g all shape image) c.new-frames.ensures there.0);
    }

pub returns-clause-reads : goal.returns-clause-reads
returns-clause-reads g c = ends _ tt (omega arith) (all_reads g (goal.at.returns-clause-reads g c).After-read_journal (Ok c.in-Ok-Some.field-0) c.in-Ok-Some.ensures.reads)
