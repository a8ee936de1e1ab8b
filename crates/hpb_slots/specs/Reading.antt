-- The contents of the slots, read one after the other.
use Rattle.std.specs.Prelude.{◌≡◌, ◌↔◌, ℕ, List, Option, IsTrue, MatchOption}
use Rattle.hpb_rules.specs.Tree.{Rules}
use Rattle.hpb_rules.specs.declared.saved.Saved.{Saved}
use Rattle.hpb_codec.specs.States.{count_in}
use Rattle.hpb_slots.specs.declared.found.Found.{Found}
use Rattle.hpb_slots.specs.declared.newest.Newest.{Newest}
use Rattle.hpb_slots.specs.declared.slot.Slot.{Slot}
use Rattle.hpb_slots.specs.declared.slot.Slot.TheVariants.{First, Second}
use Rattle.hpb_slots.specs.Slots.{IsBroken, IsOpen, Holds, body_of, other_of}
use Rattle.hpb_slots.specs.Newest.{IsNewest}

-- The answer about one slot is right: whether it is open, and its state, if it has one.
abbrev pub IsFound : Rules → Slot → List ℕ → Saved → Found → Type 0
IsFound rules slot image saved found =
    (IsTrue found.is_open ↔ IsOpen slot image)
    × MatchOption found.index ((index : ℕ) (state : Saved) → Holds rules slot index state image → ⊥) (λ index. Holds rules slot index saved image)

-- The finding about a slot is right: if the slot is open and its body spells no state, the count in the body's bytes.
abbrev pub IsToldOf : Rules → Slot → List ℕ → Option ℕ → Type 0
IsToldOf rules slot image told =
    MatchOption told (IsBroken rules slot image → ⊥) (λ count. IsBroken rules slot image × (count ≡ count_in (body_of slot image)))

-- The state of this slot, from those of both.
abbrev pub state_of_slot : Slot → Saved → Saved → Saved
state_of_slot First one other = one
state_of_slot Second one other = other

-- The chosen state is the newest, and the other slot's gate is as the answer says.
abbrev pub IsChosen : Rules → List ℕ → Saved → Saved → Newest → Type 0
IsChosen rules image one other newest =
    IsNewest rules newest.slot newest.index (state_of_slot newest.slot one other) image × (IsTrue newest.other_open ↔ IsOpen (other_of newest.slot) image)
