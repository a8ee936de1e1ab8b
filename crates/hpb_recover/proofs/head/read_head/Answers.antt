use Rattle.std.proofs.Common.{length, sym, ◌∙◌, ap, arith}
use Rattle.std.proofs.lemmas.Result.{IfErr-weaker}
use Rattle.hpb_disk.specs.Images.{part}
use Rattle.hpb_recover.specs.Beginnings.{Begins}
use Rattle.hpb_recover.specs.Causes.{AsksMemory, IsTrueOf}
use Rattle.hpb_recover.proofs.Heading.{buffer_read, cause_at, looks_formatted}
use Rattle.hpb_recover.proofs.Quietly.{one_call}
use Rattle.hpb_recover.proofs.Reading.{AreDone, ends, of_image, of_memory, one_read, read_failed, reads_done, reads_on}
use Rattle.hpb_recover.proofs.head.read_head.Given.{Over}
use Rattle.hpb_recover.proofs.head.read_head.Goals.{In_ok-gate_is_open, After-head_in}
use Rattle.hpb_recover.proofs.head.read_head.Goals as goal

-- The gate is one read.
gate_read : (g : Over) (c : In_ok-gate_is_open g) → AreDone 1 (g.D.Disk.device c.args.disk.now) (g.D.Disk.device c.gate_is_open.new.disk)
gate_read g c =
    let gate = c.gate_is_open.ensures in
    reads_done (one_call gate.unchanged gate.call.next) (one_read c.in_ok-gate_is_open.ensures.call)

-- The image begins with the bytes that were read.
begins : (g : Over) (c : After-head_in g) → Begins c.deref.result.now c.len-len.result (g.D.Disk.device c.args.disk.now).seen
begins g c = record {
  size = sym c.len-len.ensures;
  whole = c.if-len-ne0.false;
  least = c.if-len.false;
  gate = c.in_ok-gate_is_open.ensures.open.0 c.if-not-branch.false;
  head = c.deref.ensures.value ∙ buffer_read c.read_into.new.out c.in_ok-bytes.bytes.items (g.D.Disk.device c.gate_is_open.new.disk).seen c.in_ok-bytes.bytes.len (length c.deref_mut.result.now)
      (c.read_into.auto.out ∙ c.deref_mut.ensures.len) (c.deref_mut.ensures.len ∙ c.in_ok-bytes.ensures.len) c.in_ok-read_into.ensures.bytes
      ∙ ap (part 16 12272) c.gate_is_open.ensures.unchanged.seen;
}

pub returns-clause-formatted : goal.returns-clause-formatted
returns-clause-formatted g c = c.head_in.ensures.formatted (g.D.Disk.device c.args.disk.now).seen (begins g (goal.at.returns-clause-formatted g c).After-head_in)

pub returns-clause-laid : goal.returns-clause-laid
returns-clause-laid g c = c.head_in.ensures.laid (g.D.Disk.device c.args.disk.now).seen (begins g (goal.at.returns-clause-laid g c).After-head_in)

pub returns-clause-cause : goal.returns-clause-cause
returns-clause-cause g c =
    let old = g.D.Disk.device c.args.disk.now in
    cause_at old (g.D.Disk.device c.read_into.new.self) c.head_in.result (c.head_in.ensures.cause old.seen (begins g (goal.at.returns-clause-cause g c).After-head_in))

pub returns-clause-memory : goal.returns-clause-memory
returns-clause-memory g c =
    let image = (g.D.Disk.device c.args.disk.now).seen in let here = begins g (goal.at.returns-clause-memory g c).After-head_in in
    IfErr-weaker c.head_in.result (IsTrueOf image) (AsksMemory image) (λ cause told memory. looks_formatted c.deref.result.now c.len-len.result image here) (c.head_in.ensures.cause image here)

pub returns-in_err-gate_is_open-clause-reads : goal.returns-in_err-gate_is_open-clause-reads
returns-in_err-gate_is_open-clause-reads g c =
    let gate = c.gate_is_open.ensures in
    read_failed c.from_residual.result c.from_residual.ensures.1 (omega arith) (one_call gate.unchanged gate.call.next) (one_read c.in_err-gate_is_open.ensures.call)

pub returns-in_err-bytes-clause-reads : goal.returns-in_err-bytes-clause-reads
returns-in_err-bytes-clause-reads g c =
    let told = c.from_residual-in_err-bytes in
    ends told.result (of_memory told.result told.ensures.1) (omega arith) (gate_read g (goal.at.returns-in_err-bytes-clause-reads g c).In_ok-gate_is_open)

pub returns-in_err-read_into-clause-reads : goal.returns-in_err-read_into-clause-reads
returns-in_err-read_into-clause-reads g c =
    let head = c.read_into.ensures in
    let told = c.from_residual-in_err-read_into in
    reads_on {more = 1} told.result (omega arith) (gate_read g (goal.at.returns-in_err-read_into-clause-reads g c).In_ok-gate_is_open)
    (read_failed told.result told.ensures.1 (omega arith) (one_call head.unchanged head.call.next) (one_read c.in_err-read_into.ensures.call))

-- The head is another.
pub returns-clause-reads : goal.returns-clause-reads
returns-clause-reads g c =
    let image = (g.D.Disk.device c.args.disk.now).seen in
    let head = c.read_into.ensures in
    let told = c.head_in.ensures.cause image (begins g (goal.at.returns-clause-reads g c).After-head_in) in
    reads_on {more = 1} c.head_in.result (omega arith) (gate_read g (goal.at.returns-clause-reads g c).In_ok-gate_is_open)
    (ends c.head_in.result (of_image image c.head_in.result told) (omega arith) (reads_done (one_call head.unchanged head.call.next) (one_read c.in_ok-read_into.ensures.call)))
