-- The writes that a device is asked for when a frame is written.
use Rattle.std.specs.Prelude.{ℕ, ◌+◌, List}
use Rattle.hpb_codec.specs.Batches.{batch_of}
use Rattle.hpb_codec.specs.Cells.{cells_of}
use Rattle.hpb_codec.specs.declared.batch.Batch.{Batch}
use Rattle.hpb_codec.specs.declared.layout.JournalLayout.{JournalLayout}
use Rattle.hpb_codec.specs.declared.layout.JournalLayout.TheVariants as layouts
use Rattle.hpb_codec.specs.declared.layout.JournalShape.{JournalShape}
use Rattle.hpb_disk.specs.Asked.{Asked}
use Rattle.hpb_disk.specs.Asked.Asked.{writes}
use Rattle.hpb_disk.specs.Gates.{open_byte, closed_byte}
use Rattle.hpb_journal.specs.Shapes.{frame_bytes}
use Rattle.hpb_journal.specs.Strides.{frame_at}
use Rattle.hpb_journal.specs.declared.limits.TheConstants.{BODY_AT}

-- The bytes that are written for a batch.
abbrev pub bytes_in : JournalLayout → Batch → List ℕ
bytes_in layouts.Pages = batch_of
bytes_in layouts.Cells = cells_of

-- The gate of a batch's frame is its first byte.
abbrev pub frame_gate_at : JournalShape → ℕ → ℕ
frame_gate_at shape b = frame_at (frame_bytes shape.layout) shape.frames b

-- The write of a batch into its frame, behind the gate.
abbrev pub writes_body : JournalShape → Batch → Asked
writes_body shape batch = writes (frame_gate_at shape batch.index + BODY_AT) (bytes_in shape.layout batch)

-- The writes that open and close the gate of a batch's frame.
abbrev pub opens_frame : JournalShape → ℕ → Asked
opens_frame shape b = writes (frame_gate_at shape b) open_byte

abbrev pub closes_frame : JournalShape → ℕ → Asked
closes_frame shape b = writes (frame_gate_at shape b) closed_byte
