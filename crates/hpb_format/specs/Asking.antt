-- The calls of a device while it is formatted. Of writes and syncs the newest comes first.
use Rattle.std.specs.Prelude.{◌≡◌, ◌⊎◌, ℕ, zero, suc, ◌+◌, ◌≤◌, List, [], ◌∷◌, ◌++◌, length, Result, Ok, Err}
use Rattle.std.specs.List.{AllByRecursion}
use Rattle.hpb_rules.specs.Tree.{Rules}
use Rattle.hpb_codec.specs.declared.layout.JournalShape.{JournalShape}
use Rattle.hpb_codec.specs.declared.state.TheConstants.{CHUNKS}
use Rattle.hpb_disk.specs.Asked.{Asked, AsksInTurn}
use Rattle.hpb_disk.specs.Asked.Asked.{writes, syncs, fails}
use Rattle.hpb_disk.specs.Device.{Device, CountsFailure}
use Rattle.hpb_disk.specs.Gates.{open_byte, closed_byte}
use Rattle.hpb_journal.specs.Places.{closes_frame}
use Rattle.hpb_slots.specs.Writes.{closes_slot, opens_slot, writes_chunk}
use Rattle.hpb_slots.specs.declared.slot.Slot.{Slot}
use Rattle.hpb_slots.specs.declared.slot.Slot.TheVariants.{First}
use Rattle.hpb_recover.specs.declared.limits.TheConstants.{HEAD_AT}
use Rattle.hpb_format.specs.Beginnings.{IsFirstHead, IsFirstState}
use Rattle.hpb_format.specs.declared.fault.FormatCause.{FormatCause}
use Rattle.hpb_format.specs.declared.fault.FormatCause.TheVariants as causes
use Rattle.hpb_format.specs.declared.place.TheConstants.{HEAD_GATE}
use Rattle.hpb_format.specs.Stages.{OnlyCloses, StaysClosed}

-- A write that closes a gate: the head's, a slot's, or that of a frame.
abbrev pub IsClosing : JournalShape → Asked → Type 0
IsClosing journal call = (call ≡ writes HEAD_GATE closed_byte) ⊎ ((slot : Slot) × (call ≡ closes_slot slot)) ⊎ ((b : ℕ) × (call ≡ closes_frame journal b))

-- At most `most` writes that close gates, and nothing else.
pub record AreClosings (journal : JournalShape) (most : ℕ) (calls : List Asked) : Type 0 where
  pub each : AllByRecursion (IsClosing journal) calls
  pub few : length calls ≤ most

-- The device was asked for these writes and syncs in turn. It is as long as before, and a failure is reported.
pub record MakesCalls {T E : Type 0} (result : Result T E) (calls : List Asked) (old new : Device) : Type 0 where
  pub size : length new.seen ≡ length old.seen
  pub cause : CountsFailure result old new
  pub asks : AsksInTurn result calls old.asked new.asked

-- At most `most` gates are closed.
abbrev pub Closes : {T E : Type 0} → JournalShape → ℕ → Result T E → (old new : Device) → Type 0
Closes journal most result old new = (calls : List Asked) × AreClosings journal most calls × MakesCalls result calls old new × OnlyCloses old new

-- These calls are made while the gate of the head stays closed.
abbrev pub Writes : {T E : Type 0} → Result T E → List Asked → (old new : Device) → Type 0
Writes result calls old new = MakesCalls result calls old new × StaysClosed old new

-- The writes of the first chunks of the first slot's body.
abbrev pub writes_chunks : ℕ → List ℕ → List Asked
writes_chunks zero body = []
writes_chunks (suc count) body = writes_chunk First count body ∷ writes_chunks count body

-- The head and the state are written behind their gates; then come a sync, the opening of the slot's gate, and a sync.
abbrev pub writing : (head state : List ℕ) → List Asked
writing head state = syncs ∷ opens_slot First ∷ syncs ∷ writes_chunks CHUNKS state ++ writes HEAD_AT head ∷ []

-- First a sync, so that the bytes that are read stay. Then the gates that read open are closed, and a sync follows.
-- Then head and state are written as `writing` says, the gate of the head is opened, and a sync follows.
abbrev pub formatting : (head state : List ℕ) → (closings : List Asked) → List Asked
formatting head state closings = (syncs ∷ writes HEAD_GATE open_byte ∷ []) ++ writing head state ++ (syncs ∷ closings) ++ syncs ∷ []

-- All calls of a device that is formatted for a journal of this shape. There is one gate of the head, two gates of the
-- slots, and one of each frame.
pub record IsFormatting (rules : Rules) (journal : JournalShape) (calls : List Asked) : Type 0 where
  pub head : List ℕ
  pub state : List ℕ
  pub closings : List Asked
  pub first_head : IsFirstHead rules journal head
  pub first_state : IsFirstState rules state
  pub closes : AreClosings journal (3 + journal.frames) closings
  pub all : calls ≡ formatting head state closings

-- The device was asked for all of that, or for the sync alone if it is formatted already. It was asked for nothing
-- before the length and memory are known, and for nothing after a call that failed.
abbrev pub AsksToFormat : {T : Type 0} → Rules → JournalShape → Result T FormatCause → (old new : Device) → Type 0
AsksToFormat rules journal (Ok _) old new = (calls : List Asked) × IsFormatting rules journal calls × (new.asked ≡ calls ++ old.asked)
AsksToFormat rules journal (Err causes.Device) old new =
    (calls later done : List Asked) × IsFormatting rules journal calls × (calls ≡ later ++ done) × (new.asked ≡ fails ∷ done ++ old.asked)
AsksToFormat rules journal (Err causes.Formatted) old new = new.asked ≡ syncs ∷ old.asked
AsksToFormat rules journal (Err _) old new = new.asked ≡ old.asked
