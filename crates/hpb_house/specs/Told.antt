-- The refusal by which a failed start of a house is reported.
-- Source: this project's own.
use Rattle.hpb_rules.specs.declared.refusal.Refusal.{Refusal}
use Rattle.hpb_rules.specs.declared.refusal.Refusal.TheVariants as refusals
use Rattle.hpb_house.specs.declared.starting.StartCause.{StartCause}
use Rattle.hpb_house.specs.declared.starting.StartCause.TheVariants.{Memory, Place}
use Rattle.hpb_house.specs.declared.starting.StartPart.{StartPart}
use Rattle.hpb_house.specs.declared.starting.StartPart.TheVariants.{Board, Eye, Bell, Viewer, Rings, Seat, Engine}

-- **The refusal of a failed start.**
abbrev pub refusal_of : StartCause → Refusal
refusal_of Memory = refusals.Memory
refusal_of Place = refusals.Place

-- Why a house isn't started if this part is refused: a place, if it is a viewer's on the board or a seat's rings, and
-- otherwise memory.
abbrev pub cause_of : StartPart → StartCause
cause_of Board = Memory
cause_of Eye = Place
cause_of Bell = Memory
cause_of Viewer = Place
cause_of Rings = Place
cause_of Seat = Memory
cause_of Engine = Memory
