-- A device as one value, and what calls change of it.
use Rattle.std.specs.Prelude.{◌≡◌, ◌⊎◌, ℕ, ◌+◌, ◌<◌, ◌≤◌, List, [], length, Result, MatchResult}
use Rattle.hpb_disk.specs.Asked.{Asked, Asks}
use Rattle.hpb_disk.specs.Images.{Only, Within}

-- **Device.** `hpb_disk/specs`. A device at a moment: the bytes that a read gives, the images that a crash may leave,
-- and its calls. Its laws hold of each device.
pub record Device : Type 1 where
  -- the bytes that a read gives: all of the device as the calls so far have left it
  pub seen : List ℕ
  -- the images that a crash now may leave
  pub may_leave : List ℕ → Type 0
  -- the moment: a clock that each read, write and sync moves on by one
  pub moment : ℕ
  -- the images that a crash may have left at any time since that moment, within a call or between two
  pub left_since : ℕ → List ℕ → Type 0
  -- how many calls have failed
  pub failures : ℕ
  -- the writes and syncs that the device was asked for, the newest first; before each call that failed stands a note of
  -- the failure
  pub asked : List Asked
  -- A crash may leave the bytes that a read gives: all writes may be on the medium already.
  pub seen_may_stay : may_leave seen
  -- No crash makes a device longer or shorter.
  pub sized : (image : List ℕ) → may_leave image → length image ≡ length seen
  -- The present is one of the times since an earlier moment.
  pub counts_now : (since : ℕ) (image : List ℕ) → since ≤ moment → may_leave image → left_since since image
  -- Since the present moment there is no other time than the present.
  pub only_now : (image : List ℕ) → left_since moment image → may_leave image

-- No write is pending: a crash leaves the bytes that a read gives.
abbrev pub IsSettled : Device → Type 0
IsSettled device = Only device.seen device.may_leave

-- Any number of calls. The images that a crash may have left since an earlier moment are those from before the calls and
-- images of this set; none of the former is forgotten. After the calls a crash leaves an image of this set.
pub record LeavesOnly (old new : Device) (images : List ℕ → Type 0) : Type 0 where
  pub later : old.moment ≤ new.moment
  pub nothing_else : (moment : ℕ) (image : List ℕ) → moment ≤ old.moment → new.left_since moment image → old.left_since moment image ⊎ images image
  pub keeps : (moment : ℕ) (image : List ℕ) → moment ≤ old.moment → old.left_since moment image → new.left_since moment image
  pub after : Within new.may_leave images

-- Calls that change no byte. Within them and after them a crash may leave the same images as before, and after them no
-- fewer.
pub record IsUnchanged (old new : Device) : Type 0 where
  pub seen : new.seen ≡ old.seen
  pub leaves : LeavesOnly old new old.may_leave
  pub kept : Within old.may_leave new.may_leave

-- The number of failures rises if the call fails, and stays the same if it succeeds.
abbrev pub CountsFailure : {T E : Type 0} → Result T E → (old new : Device) → Type 0
CountsFailure result old new = MatchResult result (λ _. new.failures ≡ old.failures) (λ _. old.failures < new.failures)

-- One call: the write or the sync of this list, or a read if the list is empty. The device was asked for it, whether it
-- succeeds or not. A failure is reported, and nothing else is reported as one.
pub record MakesCall {T E : Type 0} (result : Result T E) (call : List Asked) (old new : Device) : Type 0 where
  pub next : new.moment ≡ old.moment + 1
  pub cause : CountsFailure result old new
  pub asked : Asks result call old.asked new.asked

-- At most this many reads, and no other call. A failure is reported, and nothing else is reported as one.
pub record MakesReads {T E : Type 0} (result : Result T E) (most : ℕ) (old new : Device) : Type 0 where
  pub few : new.moment ≤ old.moment + most
  pub cause : CountsFailure result old new
  pub asked : Asks result [] old.asked new.asked
