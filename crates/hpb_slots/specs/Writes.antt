-- The writes that a device is asked for when a slot is written.
use Rattle.std.specs.Prelude.{ℕ, List}
use Rattle.hpb_codec.specs.Laws.{chunk_of}
use Rattle.hpb_disk.specs.Asked.{Asked}
use Rattle.hpb_disk.specs.Asked.Asked.{writes}
use Rattle.hpb_disk.specs.Gates.{open_byte, closed_byte}
use Rattle.hpb_slots.specs.Slots.{chunk_at, gate_at}
use Rattle.hpb_slots.specs.declared.slot.Slot.{Slot}

-- The write of one chunk of a body.
abbrev pub writes_chunk : Slot → ℕ → List ℕ → Asked
writes_chunk slot i body = writes (chunk_at slot i) (chunk_of i body)

-- The writes that open and close the gate of a slot.
abbrev pub opens_slot : Slot → Asked
opens_slot slot = writes (gate_at slot) open_byte

abbrev pub closes_slot : Slot → Asked
closes_slot slot = writes (gate_at slot) closed_byte
