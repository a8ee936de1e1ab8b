-- The streams that a run of the auction in a file reads and writes.
use Rattle.std.specs.Prelude.{◌≡◌, ◌⊎◌, ℕ, Bool, false, List, Option, Result, Ok, Err, ⊤}
use Rattle.hpb_rules.specs.declared.command.Command.{Command}
use Rattle.hpb_disk.specs.declared.file.FileDisk.{FileDisk}
use Rattle.hpb_disk.specs.Device.{Device}
use Rattle.hpb_disk.specs.FileDisks.{file_device}
use Rattle.hpb_recover.specs.Flaws.{HasFlaw}
use Rattle.hpb_recover.specs.Readings.{last_value, Found, Reads}
use Rattle.hpb_recover.specs.Standing.{Stands}
use Rattle.hpb_engine.specs.declared.progress.Progress.{Progress}
use Rattle.hpb_engine.specs.Keeping.{Running}
use Rattle.hpb_recover.specs.declared.cause.Cause.TheVariants as opening
use Rattle.hpb_run.specs.Device.{at_start}
use Rattle.hpb_run.specs.Running.{ServesFrom}
use Rattle.hpb_server.specs.declared.fault.SessionFault.{SessionFault}
use Rattle.hpb_server.specs.Streams.{AreKept, Streams}
use Rattle.hpb_server.specs.Telling.{ExplainsAt}
use Rattle.hpb_messages.specs.declared.job_fault.JobFault.{JobFault}
use Rattle.hpb_messages.specs.declared.job_fault.JobFault.TheVariants as faults
use Rattle.hpb_program.specs.declared.keeping.FileRun.{FileRun}
use Rattle.hpb_program.specs.ConsoleValue.{ConsoleValue}
use Rattle.hpb_program.specs.Doubts.{TellsIll, TellsImage, TellsStopped}
use Rattle.hpb_program.specs.Jobs.{IsKept}

-- The auction that is read on a device was run: the lines were answered by each history for which the device stood.
-- An engine then runs so.
pub record IsRun (opened : Device) (before after : Streams) (run : Running) (end : Result ⊤ SessionFault) : Type 0 where
  pub found : Found
  pub reads : Reads found opened.seen
  pub shows : IsKept opened.seen (last_value found)
  pub serves : (history : List Command) → Stands history opened.seen → ServesFrom before after (at_start (last_value found).rules history opened.failures false) run end

-- A device was not opened: it has the reported flaw, or the machine failed.
abbrev pub IsNotOpened : List ℕ → JobFault → Type 0
IsNotOpened image (faults.Open (opening.Flawed flaw)) = HasFlaw flaw image
IsNotOpened image fault = (fault ≡ faults.Memory) ⊎ (fault ≡ faults.Open opening.Device)

-- A fault of opening a job's file, or of memory.
abbrev pub IsOfOpening : JobFault → Type 0
IsOfOpening faults.Memory = Unit {0}
IsOfOpening (faults.File fault) = Unit {0}
IsOfOpening (faults.Open cause) = Unit {0}
IsOfOpening fault = ⊥

-- The messages of a run. If it began, the doubts about the device are reported first, and at a terminal then come lines
-- of the form of sentences. If it did not begin, the messages are those of any such job.
abbrev pub TellsRunning : {T : Type 0} → (is_terminal : Bool) → List ℕ → (errors_old errors_new : Option (List ℕ)) → Result T JobFault → Type 0
TellsRunning is_terminal image errors_old errors_new (Ok done) = (errors_told : Option (List ℕ)) × TellsImage image errors_old errors_told × ExplainsAt is_terminal errors_told errors_new
TellsRunning is_terminal image errors_old errors_new (Err fault) = TellsStopped image errors_old errors_new fault

-- An auction was run by the contents of a file, about which only the doubts are known, since they were reported before.
-- Or the file was not opened, and nothing was read or written.
abbrev pub RunsFile : (before after : ConsoleValue) → Result FileRun JobFault → Type 0
RunsFile before after (Ok run) =
    (opened : FileDisk) × (disk : FileDisk) × (progress : Progress)
    × IsRun (file_device opened) before.streams after.streams (record { device = file_device disk; progress = progress; failed = run.ended.failed }) run.ended.end
    × TellsRunning before.is_terminal (file_device opened).seen before.errors after.errors (Ok run)
RunsFile before after (Err fault) = IsOfOpening fault × AreKept before.streams after.streams × TellsIll before.errors after.errors fault
