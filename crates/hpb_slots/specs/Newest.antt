-- The newest state of a device.
use Rattle.std.specs.Prelude.{◌≡◌, ◌⊎◌, ◌↔◌, ℕ, ◌<◌, ◌≤◌, List, Option, Some, None, IsTrue}
use Rattle.hpb_rules.specs.Tree.{Rules}
use Rattle.hpb_rules.specs.declared.saved.Saved.{Saved}
use Rattle.hpb_slots.specs.declared.slot.Slot.{Slot}
use Rattle.hpb_slots.specs.declared.newest.Newest.{Newest}
use Rattle.hpb_slots.specs.Slots.{Holds, IsOpen, place_of, other_of}

-- The newest state is the one with the greatest index among the slots that hold a state. If both have the same index,
-- it is the first slot's.
pub record IsNewest (rules : Rules) (slot : Slot) (index : ℕ) (saved : Saved) (image : List ℕ) : Type 0 where
  pub holds : Holds rules slot index saved image
  pub greatest : (other : Slot) (i : ℕ) (older : Saved) → Holds rules other i older image → (i < index) ⊎ ((i ≡ index) × (place_of slot ≤ place_of other))

-- No slot holds a state.
abbrev pub IsWithout : Rules → List ℕ → Type 0
IsWithout rules image = (slot : Slot) (index : ℕ) (saved : Saved) → Holds rules slot index saved image → ⊥

-- A reader's answer about both slots is right: the newest state, and whether the other slot's gate is open, whatever
-- stands behind it.
abbrev pub IsRead : Rules → List ℕ → Saved → Option Newest → Type 0
IsRead rules image saved None = IsWithout rules image
IsRead rules image saved (Some newest) =
    IsNewest rules newest.slot newest.index saved image × (IsTrue newest.other_open ↔ IsOpen (other_of newest.slot) image)
