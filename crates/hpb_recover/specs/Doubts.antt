-- Findings that no honest device has, though it opens.
use Rattle.std.specs.Prelude.{ℕ, suc, ◌+◌, ◌<◌, ◌≤◌, List, Option, None, Some}
use Rattle.hpb_journal.specs.Frames.{IsOwn, IsRead}
use Rattle.hpb_slots.specs.Reading.{IsToldOf}
use Rattle.hpb_slots.specs.Slots.{other_of}
use Rattle.hpb_recover.specs.Plans.{layout_in}
use Rattle.hpb_recover.specs.Replaying.{NoneIsOwn}
use Rattle.hpb_recover.specs.declared.doubts.Later.{Later}
use Rattle.hpb_recover.specs.declared.plan.Plan.{Plan}

-- The finding is about the slot beside the one whose checkpoint was opened.
abbrev pub IsSlotTold : Plan → List ℕ → Option ℕ → Type 0
IsSlotTold plan image told = IsToldOf plan.auction.rules (other_of plan.slot) image told

-- The opened checkpoint has room for batches up to this index. A later batch takes the frame of one that the checkpoint
-- doesn't cover.
abbrev pub end_of_room : Plan → ℕ
end_of_room plan = plan.covered + (layout_in plan).count

-- The end of the indexes for which a checkpoint one round of the journal later has room.
abbrev pub end_of_later : Plan → ℕ
end_of_later plan = end_of_room plan + (layout_in plan).count

-- The frame is the last of those that are open with an index past that room and before an end. Its contents are those
-- that a reader of its batch finds.
pub record IsLatest (plan : Plan) (image : List ℕ) (end : ℕ) (later : Later) : Type 0 where
  pub past : end_of_room plan ≤ later.index
  pub before : later.index < end
  pub own : IsOwn (layout_in plan) later.index image
  pub told : IsRead (layout_in plan) plan.auction.rules later.index image later.frame
  pub last : NoneIsOwn (layout_in plan) (suc later.index) end image

-- The finding is the last of these frames, or none if there is none.
abbrev pub IsToldTo : Plan → List ℕ → ℕ → Option Later → Type 0
IsToldTo plan image end None = NoneIsOwn (layout_in plan) (end_of_room plan) end image
IsToldTo plan image end (Some later) = IsLatest plan image end later

abbrev pub IsFrameTold : Plan → List ℕ → Option Later → Type 0
IsFrameTold plan image later = IsToldTo plan image (end_of_later plan) later
