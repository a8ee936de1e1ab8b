-- The warning if a file opens, but there are doubts about it: signs of damage that no honest file shows.
use Rattle.std.specs.Prelude.{◌≡◌, ◌⊎◌, ℕ, List, [], ◌++◌, Option, None, Some, Result, Ok, Err, codes, decimal}
use Rattle.std.specs.Io.KnownBytes.{Keeps}
use Rattle.hpb_disk.specs.FileDisks.{file_device}
use Rattle.hpb_journal.specs.declared.frame.Frame.{Frame}
use Rattle.hpb_journal.specs.declared.frame.Frame.TheVariants as frames
use Rattle.hpb_recover.specs.Doubts.{IsFrameTold, IsSlotTold}
use Rattle.hpb_recover.specs.Plans.{IsPlan}
use Rattle.hpb_recover.specs.declared.cause.Cause.TheVariants as opening
use Rattle.hpb_recover.specs.declared.doubts.Later.{Later}
use Rattle.hpb_recover.specs.declared.plan.Plan.{Plan}
use Rattle.hpb_messages.specs.declared.job_fault.JobFault.{JobFault}
use Rattle.hpb_messages.specs.declared.job_fault.JobFault.TheVariants as faults
use Rattle.hpb_program.specs.declared.serving.FileEnd.{FileEnd}
use Rattle.hpb_server.specs.Telling.{Says}

-- The text for a batch that needs a newer checkpoint: the number of its first command, if the batch is whole.
abbrev pub frame_text : Frame → List ℕ
frame_text (frames.Batch batch) = codes ", and a later batch begins with command " ++ decimal batch.first
frame_text frames.Closed = codes ", and a later batch is damaged"
frame_text frames.Other = codes ", and a later batch is damaged"
frame_text frames.Damaged = codes ", and a later batch is damaged"

-- The same, if there is one.
abbrev pub later_text : Option Later → List ℕ
later_text None = []
later_text (Some later) = frame_text later.frame

-- The text for a damaged slot, by the count in its bytes,
abbrev pub damaged_text : ℕ → List ℕ
damaged_text damaged = codes ", and " ++ decimal damaged ++ codes " by the damaged one"

-- and then of a later batch.
abbrev pub slot_text : ℕ → List ℕ → List ℕ
slot_text damaged later = damaged_text damaged ++ later

-- The line with the texts of the doubts, behind the count of the opened auction.
abbrev pub doubts_line : ℕ → List ℕ → List ℕ
doubts_line count found =
    codes "hpb: a checkpoint is damaged, which no power cut does, and it may be the newest: COUNT is " ++ decimal count ++ codes " in the auction that was opened" ++ found
    ++ codes ". Copy the file before anything else, and hold COUNT against the number of the last OK: if that is greater, go back to your newest backup, and send again, in their order, the commands since then\n"

-- The warning after an auction of this many commands was opened: nothing if there are no doubts.
abbrev pub doubts_text : ℕ → Option ℕ → Option Later → List ℕ
doubts_text count None None = []
doubts_text count None (Some later) = doubts_line count (frame_text later.frame)
doubts_text count (Some damaged) later = doubts_line count (slot_text damaged (later_text later))

-- Standard error gets exactly the doubts about a device.
abbrev pub TellsDoubts : Plan → List ℕ → (errors_old errors_new : Option (List ℕ)) → Type 0
TellsDoubts plan image errors_old errors_new =
    (slot : Option ℕ) × (later : Option Later) × IsSlotTold plan image slot × IsFrameTold plan image later × Says errors_old errors_new (doubts_text plan.auction.count slot later)

-- The same, by the bytes of the device.
abbrev pub TellsImage : List ℕ → (errors_old errors_new : Option (List ℕ)) → Type 0
TellsImage image errors_old errors_new = (plan : Plan) × IsPlan plan image × TellsDoubts plan image errors_old errors_new

-- A job on a device was not done, or not to its end. If the device was opened, the doubts about it were reported; if it
-- wasn't opened, nothing was. If memory was refused, either may be.
abbrev pub TellsStopped : List ℕ → (errors_old errors_new : Option (List ℕ)) → JobFault → Type 0
TellsStopped image errors_old errors_new faults.Memory = Keeps errors_old errors_new ⊎ TellsImage image errors_old errors_new
TellsStopped image errors_old errors_new (faults.File fault) = Keeps errors_old errors_new
TellsStopped image errors_old errors_new (faults.Descriptors sessions wanted error) = Keeps errors_old errors_new
TellsStopped image errors_old errors_new (faults.Open cause) = Keeps errors_old errors_new
TellsStopped image errors_old errors_new fault = TellsImage image errors_old errors_new

-- The job was done or begun, and the doubts were reported before; or it was not.
abbrev pub TellsKept : {T : Type 0} → List ℕ → (errors_old errors_new : Option (List ℕ)) → Result T JobFault → Type 0
TellsKept image errors_old errors_new (Ok done) = TellsImage image errors_old errors_new
TellsKept image errors_old errors_new (Err fault) = TellsStopped image errors_old errors_new fault

-- The same for a job on a file that was not done, or not to its end. The file's bytes aren't known.
abbrev pub TellsIll : (errors_old errors_new : Option (List ℕ)) → JobFault → Type 0
TellsIll errors_old errors_new fault = (image : List ℕ) × TellsStopped image errors_old errors_new fault

-- If a file was served, the doubts about its disk were reported when it was opened.
abbrev pub TellsServing : (errors_old errors_new : Option (List ℕ)) → Result FileEnd JobFault → Type 0
TellsServing errors_old errors_new (Ok end) = TellsImage (file_device end.opened.value).seen errors_old errors_new
TellsServing errors_old errors_new (Err fault) = TellsIll errors_old errors_new fault

-- The machine failed: memory, or the device.
abbrev pub IsOfMachine : JobFault → Type 0
IsOfMachine fault = (fault ≡ faults.Memory) ⊎ (fault ≡ faults.Open opening.Device)
