-- The laws of slots.
use Rattle.std.specs.Prelude.{◌≡◌, ◌⊎◌, ℕ, ◌+◌, ◌≤◌, List, length}
use Rattle.hpb_rules.specs.Tree.{Rules}
use Rattle.hpb_rules.specs.declared.saved.Saved.{Saved}
use Rattle.hpb_codec.specs.declared.state.TheConstants.{CHUNKS, STATE_SIZE}
use Rattle.hpb_disk.specs.Images.{part}
use Rattle.hpb_slots.specs.declared.limits.TheConstants.{SLOTS_AT, SLOTS_END}
use Rattle.hpb_slots.specs.declared.slot.Slot.{Slot}
use Rattle.hpb_slots.specs.Slots.{IsOpen, IsClosed, Holds, HasChunks, body_of, gate_of}
use Rattle.hpb_slots.specs.Newest.{IsNewest}

-- Each slot is open or closed.
abbrev pub OpenOrClosed : Type 0
OpenOrClosed = (slot : Slot) (image : List ℕ) → IsOpen slot image ⊎ IsClosed slot image

-- A slot holds at most one state.
abbrev pub HoldsOne : Type 0
HoldsOne = (rules : Rules) (slot : Slot) (index i : ℕ) (saved other : Saved) (image : List ℕ)
    → Holds rules slot index saved image → Holds rules slot i other image → (index ≡ i) × (saved ≡ other)

-- A device has at most one newest state.
abbrev pub NewestIsOne : Type 0
NewestIsOne = (rules : Rules) (slot other : Slot) (index i : ℕ) (saved older : Saved) (image : List ℕ)
    → IsNewest rules slot index saved image → IsNewest rules other i older image → (slot ≡ other) × (index ≡ i) × (saved ≡ older)

-- A slot that has all chunks of a body has the body.
abbrev pub ChunksAreWhole : Type 0
ChunksAreWhole = (slot : Slot) (body image : List ℕ) → length body ≡ STATE_SIZE → HasChunks slot CHUNKS body image → body_of slot image ≡ body

-- If no byte between the head and the journal differs, both slots are as they were.
abbrev pub SlotsStay : Type 0
SlotsStay = (slot : Slot) (old new : List ℕ)
    → ((at count : ℕ) → SLOTS_AT ≤ at → at + count ≤ SLOTS_END → part at count new ≡ part at count old)
    → (gate_of slot new ≡ gate_of slot old) × (body_of slot new ≡ body_of slot old)
