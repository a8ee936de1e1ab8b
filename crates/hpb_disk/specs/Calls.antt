-- The state of a device after its calls, the newest of which comes first.
use Rattle.std.specs.Prelude.{◌≡◌, ◌⊎◌, ℕ, ◌+◌, ◌≤◌, nat_le, ◌==◌, List, [], ◌∷◌, ◌++◌, length, if◌then◌else◌}
use Rattle.hpb_disk.specs.Events.{Event}
use Rattle.hpb_disk.specs.Images.{put, TornFrom}

-- A call, and whether it was done. A call that failed did nothing. The exception is a write that failed and is noted
-- with its offset and bytes: of that anything may have been done.
pub data Call : Type 0 where
  read : Call
  wrote : ℕ → List ℕ → Call
  synced : Call
  failed : Call
  write_failed : ℕ → List ℕ → Call

-- The call of an entry of a trace.
abbrev pub call_of : Event → Call
call_of event =
    if event.0 == 0 then read
    else if event.0 == 1 then wrote event.1 event.2
    else if event.0 == 2 then synced
    else if event.0 == 3 then write_failed event.1 event.2
    else failed

-- The calls of a trace.
abbrev pub calls_of : List Event → List Call
calls_of [] = []
calls_of (event ∷ events) = call_of event ∷ calls_of events

-- The image after a write. (A caller stays within the device, so none reaches past its end.)
abbrev pub after_write : ℕ → List ℕ → List ℕ → List ℕ
after_write at bytes image = if nat_le (at + length bytes) (length image) then put at bytes image else image

-- The bytes that a read gives after one call more.
abbrev pub seen_after : Call → List ℕ → List ℕ
seen_after (wrote at bytes) seen = after_write at bytes seen
seen_after _ seen = seen

-- The bytes that a read gives after these calls of a device that held the first image.
abbrev pub seen_of : List ℕ → List Call → List ℕ
seen_of first [] = first
seen_of first (call ∷ calls) = seen_after call (seen_of first calls)

-- The images that a crash may leave after one call more, from the bytes that a read gave before it and the images that
-- a crash could leave then.
abbrev pub left_after : Call → List ℕ → (List ℕ → Type 0) → List ℕ → Type 0
left_after read seen left image = left image
left_after (wrote at bytes) seen left image = TornFrom at (length bytes) left image
left_after synced seen left image = image ≡ seen
left_after failed seen left image = left image
left_after (write_failed at bytes) seen left image = TornFrom at (length bytes) left image

-- The images that a crash may leave after these calls. At first no write was pending.
abbrev pub left_of : List ℕ → List Call → List ℕ → Type 0
left_of first [] image = image ≡ first
left_of first (call ∷ calls) image = left_after call (seen_of first calls) (left_of first calls) image

-- The images that a crash may have left at any time since a number of calls.
abbrev pub since_of : List ℕ → List Call → ℕ → List ℕ → Type 0
since_of first [] moment image = left_of first [] image
since_of first (call ∷ calls) moment image = left_of first (call ∷ calls) image ⊎ ((moment ≤ length calls) × since_of first calls moment image)

-- A call that failed counts as one failure.
abbrev pub failure_of : Call → ℕ
failure_of failed = 1
failure_of (write_failed at bytes) = 1
failure_of _ = 0

-- How many calls failed.
abbrev pub failures_of : List Call → ℕ
failures_of [] = 0
failures_of (call ∷ calls) = failure_of call + failures_of calls

-- The image that the newest sync found, or the first one.
abbrev pub base_of : List ℕ → List Call → List ℕ
base_of first [] = first
base_of first (synced ∷ calls) = seen_of first calls
base_of first (_ ∷ calls) = base_of first calls

-- The writes since then, by offset and bytes, the oldest first.
abbrev pub pending_of : List Call → List (ℕ × List ℕ)
pending_of [] = []
pending_of (wrote at bytes ∷ calls) = pending_of calls ++ (at, bytes) ∷ []
pending_of (write_failed at bytes ∷ calls) = pending_of calls ++ (at, bytes) ∷ []
pending_of (synced ∷ calls) = []
pending_of (read ∷ calls) = pending_of calls
pending_of (failed ∷ calls) = pending_of calls
