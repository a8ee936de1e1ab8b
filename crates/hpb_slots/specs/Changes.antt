-- The bytes that a write of a slot leaves as they were. The head lies before the slots, the journal behind them.
use Rattle.std.specs.Prelude.{◌≡◌, ◌≢◌, ℕ, ◌<◌, List, length}
use Rattle.hpb_codec.specs.declared.state.TheConstants.{CHUNKS}
use Rattle.hpb_disk.specs.Images.{SameBefore, SameFrom}
use Rattle.hpb_slots.specs.declared.limits.TheConstants.{SLOTS_AT, SLOTS_END}
use Rattle.hpb_slots.specs.declared.slot.Slot.{Slot}
use Rattle.hpb_slots.specs.Slots.{gate_of, body_of, piece_of}

-- The images differ at most in the gate of this slot.
pub record ChangesGate (slot : Slot) (old new : List ℕ) : Type 0 where
  pub before : SameBefore SLOTS_AT old new
  pub behind : SameFrom SLOTS_END old new
  pub size : length new ≡ length old
  pub gates : (other : Slot) → other ≢ slot → gate_of other new ≡ gate_of other old
  pub bodies : (other : Slot) → body_of other new ≡ body_of other old

-- The images differ at most in one chunk of the body of this slot.
pub record ChangesChunk (slot : Slot) (i : ℕ) (old new : List ℕ) : Type 0 where
  pub before : SameBefore SLOTS_AT old new
  pub behind : SameFrom SLOTS_END old new
  pub size : length new ≡ length old
  pub gates : (other : Slot) → gate_of other new ≡ gate_of other old
  pub bodies : (other : Slot) → other ≢ slot → body_of other new ≡ body_of other old
  pub pieces : (j : ℕ) → j < CHUNKS → j ≢ i → piece_of slot j new ≡ piece_of slot j old

-- One of these images, with any byte in the gate of this slot.
abbrev pub TornGate : Slot → (List ℕ → Type 0) → List ℕ → Type 0
TornGate slot images new = (old : List ℕ) × images old × ChangesGate slot old new

-- One of these images, with any bytes in this chunk.
abbrev pub TornChunk : Slot → ℕ → (List ℕ → Type 0) → List ℕ → Type 0
TornChunk slot i images new = (old : List ℕ) × images old × ChangesChunk slot i old new
