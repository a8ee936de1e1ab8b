-- The two slots of a device, and their contents.
use Rattle.std.specs.Prelude.{◌≡◌, ◌≢◌, ℕ, ◌+◌, ◌*◌, ◌<◌, List}
use Rattle.hpb_rules.specs.Tree.{Rules}
use Rattle.hpb_rules.specs.declared.saved.Saved.{Saved}
use Rattle.hpb_codec.specs.declared.state.TheConstants.{CHUNK_SIZE, STATE_SIZE}
use Rattle.hpb_codec.specs.Laws.{chunk_of}
use Rattle.hpb_codec.specs.States.{SpellsState}
use Rattle.hpb_disk.specs.Gates.{open_byte}
use Rattle.hpb_disk.specs.Images.{part}
use Rattle.hpb_codec.specs.declared.layout.TheConstants.{PAGE_BYTES}
use Rattle.hpb_slots.specs.declared.limits.TheConstants.{SLOTS_AT, SLOT_BYTES}
use Rattle.hpb_slots.specs.declared.slot.Slot.{Slot}
use Rattle.hpb_slots.specs.declared.slot.Slot.TheVariants.{First, Second}

-- **Slots.** `hpb_slots/specs`. A device has two places for a state. Each has a gate, and a body of four chunks behind
-- it.
--
-- The place of a slot: 0 or 1.
abbrev pub place_of : Slot → ℕ
place_of First = 0
place_of Second = 1

abbrev pub other_of : Slot → Slot
other_of First = Second
other_of Second = First

-- The gate of a slot is the first byte of its first page.
abbrev pub gate_at : Slot → ℕ
gate_at slot = SLOTS_AT + SLOT_BYTES * place_of slot

-- Its body is the four pages after that, a chunk each.
abbrev pub chunk_at : Slot → ℕ → ℕ
chunk_at slot i = gate_at slot + PAGE_BYTES + CHUNK_SIZE * i

abbrev pub gate_of : Slot → List ℕ → List ℕ
gate_of slot image = part (gate_at slot) 1 image

abbrev pub body_of : Slot → List ℕ → List ℕ
body_of slot image = part (gate_at slot + PAGE_BYTES) STATE_SIZE image

abbrev pub piece_of : Slot → ℕ → List ℕ → List ℕ
piece_of slot i image = part (chunk_at slot i) CHUNK_SIZE image

-- The gate of the slot is open.
abbrev pub IsOpen : Slot → List ℕ → Type 0
IsOpen slot image = gate_of slot image ≡ open_byte

-- The gate of the slot has any other value.
abbrev pub IsClosed : Slot → List ℕ → Type 0
IsClosed slot image = gate_of slot image ≢ open_byte

-- **The newest slot.** A slot holds a state if its gate is open and its body spells the state under the definition. Of
-- the slots that hold one, the newest covers the most batches. If both cover equally many, the first is the newest.
--
-- The slot is open with a state under the definition that covers this number of batches.
abbrev pub Holds : Rules → Slot → ℕ → Saved → List ℕ → Type 0
Holds rules slot index saved image = IsOpen slot image × SpellsState rules (body_of slot image) saved index

-- The slot is open, and its body spells no state under the definition.
abbrev pub IsBroken : Rules → Slot → List ℕ → Type 0
IsBroken rules slot image = IsOpen slot image × ((index : ℕ) (saved : Saved) → Holds rules slot index saved image → ⊥)

-- The slot's body has the first chunks of these bytes, as many as the number says.
abbrev pub HasChunks : Slot → ℕ → List ℕ → List ℕ → Type 0
HasChunks slot count body image = (i : ℕ) → i < count → piece_of slot i image ≡ chunk_of i body
