-- The limits of the house's workers, as the numbers that the documents name.
use Rattle.std.specs.Prelude.{◌≡◌}
use Rattle.hpb_house.specs.declared.checkpointing.TheConstants.{PACE, MOST_FREED}
use Rattle.hpb_house.specs.declared.committing.TheConstants.{AGAIN_AFTER, LOOKS, FEW_LOOKS}

-- Each limit of the code is the number in the documents.
pub record LimitsAre : Type 0 where
  -- Between two steps of a checkpoint, while more than half of the frames are clean, the wait in milliseconds.
  pub pace : PACE ≡ 1
  -- How many frames are freed before each such wait.
  pub freed : MOST_FREED ≡ 16
  -- How many milliseconds the committer waits before it offers letters again that were handed back for want of memory
  -- or of room.
  pub again_after : AGAIN_AFTER ≡ 1
  -- How often it looks for expected letters, and how many looks in a row may find no other.
  pub looks : LOOKS ≡ 100
  pub few_looks : FEW_LOOKS ≡ 20
