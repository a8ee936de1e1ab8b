-- The images of a device while it is formatted.
use Rattle.std.specs.Prelude.{◌≡◌, ◌⊎◌, ℕ, List, length}
use Rattle.hpb_disk.specs.Device.{Device, LeavesOnly}
use Rattle.hpb_disk.specs.Gates.{HasOpenGate, HasClosedGate}
use Rattle.hpb_disk.specs.Images.{part, SameBefore, SameFrom, Within}
use Rattle.hpb_journal.specs.Layouts.{Layout}
use Rattle.hpb_journal.specs.Frames.{IsClosed}
use Rattle.hpb_slots.specs.declared.limits.TheConstants.{SLOTS_AT, SLOTS_END}
use Rattle.hpb_slots.specs.declared.slot.Slot.{Slot}
use Rattle.hpb_slots.specs.declared.slot.Slot.TheVariants.{First, Second}
use Rattle.hpb_slots.specs.Slots as slots
use Rattle.hpb_codec.specs.declared.head.TheConstants.{HEAD_SIZE}
use Rattle.hpb_recover.specs.declared.limits.TheConstants.{HEAD_AT, MAGIC_BYTES}
use Rattle.hpb_recover.specs.Heads.{IsHeaded}
use Rattle.hpb_format.specs.declared.place.TheConstants.{HEAD_GATE}

-- All gates are closed: the head's, those of the two slots, and that of each batch's frame.
pub record AreClosed (layout : Layout) (image : List ℕ) : Type 0 where
  pub head : HasClosedGate HEAD_GATE image
  pub slots : (slot : Slot) → slots.IsClosed slot image
  pub frames : (b : ℕ) → IsClosed layout b image

-- The bytes that a device that isn't formatted keeps while gates are closed: those at the place of the magic, and the
-- head's gate, if that is closed.
pub record HasHeadOf (first image : List ℕ) : Type 0 where
  pub magic : part HEAD_AT MAGIC_BYTES image ≡ part HEAD_AT MAGIC_BYTES first
  pub gate : HasClosedGate HEAD_GATE first → HasClosedGate HEAD_GATE image

-- If a crash could leave only images of this set, it leaves only such images within these calls and after them.
abbrev pub Keeps : (List ℕ → Type 0) → (old new : Device) → Type 0
Keeps images old new = Within old.may_leave images → LeavesOnly old new images

-- At most, gates are closed.
abbrev pub OnlyCloses : (old new : Device) → Type 0
OnlyCloses old new = (first : List ℕ) → Keeps (HasHeadOf first) old new

-- The gate of the head stays closed.
abbrev pub StaysClosed : (old new : Device) → Type 0
StaysClosed = Keeps (HasClosedGate HEAD_GATE)

-- The images differ at most in the body of the first slot.
pub record ChangesBody (old new : List ℕ) : Type 0 where
  pub before : SameBefore SLOTS_AT old new
  pub behind : SameFrom SLOTS_END old new
  pub size : length new ≡ length old
  pub gates : (slot : Slot) → slots.gate_of slot new ≡ slots.gate_of slot old

-- Head and state are written, and all gates are closed.
pub record IsWritten (layout : Layout) (head_bytes state_bytes image : List ℕ) : Type 0 where
  pub size : length image ≡ layout.size
  pub head : part HEAD_AT HEAD_SIZE image ≡ head_bytes
  pub state : slots.body_of First image ≡ state_bytes
  pub closed : AreClosed layout image

-- Head and state are written, and of all gates but the head's only the first slot's is open.
pub record IsMade (layout : Layout) (head_bytes state_bytes image : List ℕ) : Type 0 where
  pub size : length image ≡ layout.size
  pub head : part HEAD_AT HEAD_SIZE image ≡ head_bytes
  pub state : slots.body_of First image ≡ state_bytes
  pub first : slots.IsOpen First image
  pub second : slots.IsClosed Second image
  pub frames : (b : ℕ) → IsClosed layout b image

-- The same, with the head's gate open.
pub record IsOpenAndMade (layout : Layout) (head_bytes state_bytes image : List ℕ) : Type 0 where
  pub gate : HasOpenGate HEAD_GATE image
  pub made : IsMade layout head_bytes state_bytes image

-- The head's gate is closed, or the image is complete.
abbrev pub IsClosedOrMade : Layout → (head state image : List ℕ) → Type 0
IsClosedOrMade layout head state image = HasClosedGate HEAD_GATE image ⊎ IsOpenAndMade layout head state image

-- The device isn't headed, or the image is complete.
abbrev pub IsUnheadedOrMade : Layout → (head state image : List ℕ) → Type 0
IsUnheadedOrMade layout head state image = (IsHeaded image → ⊥) ⊎ IsOpenAndMade layout head state image
