-- The program's use of its streams, and its status.
use Rattle.std.specs.Prelude.{◌≡◌, ℕ, Bool, true, false, List, [], Option, None, Some, Result, Ok, Err, ⊤, ◌⊎◌, ◌||◌, string_bytes}
use Rattle.std.specs.Io.KnownBytes.{Keeps}
use Rattle.hpb_server.specs.declared.fault.SessionFault.{SessionFault}
use Rattle.hpb_server.specs.declared.script.ScriptEnd.{ScriptEnd}
use Rattle.hpb_server.specs.declared.script.ScriptEnd.TheVariants as ends
use Rattle.hpb_words.specs.declared.status.TheConstants.{WELL, ILL}
use Rattle.hpb_words.specs.declared.words.Job.{Job}
use Rattle.hpb_words.specs.declared.words.Job.TheVariants.{Script, Format, Check, Run, Serve}
use Rattle.hpb_words.specs.declared.words.WordsFault.{WordsFault}
use Rattle.hpb_words.specs.declared.words.WordsFault.TheVariants.{Memory, Refused}
use Rattle.hpb_messages.specs.declared.job_fault.JobFault.{JobFault}
use Rattle.hpb_messages.specs.declared.job_fault.JobFault.TheVariants as faults
use Rattle.hpb_messages.specs.declared.advice.Meddling.{Meddling}
use Rattle.hpb_program.specs.declared.keeping.FileRun.{FileRun}
use Rattle.hpb_program.specs.declared.serving.FileEnd.{FileEnd}
use Rattle.hpb_program.specs.declared.led.Led.{Led}
use Rattle.hpb_program.specs.ConsoleValue.{ConsoleValue}
use Rattle.hpb_program.specs.Doubts.{TellsServing}
use Rattle.hpb_program.specs.Keeping.{RunsFile}
use Rattle.hpb_program.specs.Serving.{ServesFile}
use Rattle.hpb_messages.specs.Faults.{refusal_of}
use Rattle.hpb_messages.specs.Telling.{AnswersJob, IsTaken, TellsUnled}
use Rattle.hpb_words.specs.Hints.{hint_text}
use Rattle.hpb_words.specs.Words.{AsksFor, HasFile, HasStatus}
use Rattle.hpb_program.specs.Jobs.{Checks, Formats}
use Rattle.hpb_server.specs.Fault as sessions
use Rattle.hpb_server.specs.Script.{RunsScript}
use Rattle.hpb_server.specs.Streams.{AreKept}
use Rattle.hpb_server.specs.Telling.{Says, SaysOfScript, TellsOf}
use Rattle.hpb_rules.specs.declared.refusal.Refusal.TheVariants as refusals

-- The status by the end of a script.
abbrev pub status_of_script : Result ScriptEnd SessionFault → ℕ
status_of_script (Ok ends.Answered) = WELL
status_of_script (Ok (ends.Refused refusal)) = ILL
status_of_script (Err fault) = ILL

-- The status if words ask for no job.
abbrev pub status_of_fault : WordsFault → ℕ
status_of_fault Memory = ILL
status_of_fault (Refused text status) = status

-- The message about words that ask for no job.
abbrev pub SaysFault : (errors_old errors_new : Option (List ℕ)) → WordsFault → Type 0
SaysFault errors_old errors_new Memory = TellsOf errors_old errors_new refusals.Memory
SaysFault errors_old errors_new (Refused text status) = Says errors_old errors_new (string_bytes text)

-- The bytes written to the output about words that ask for no job. If memory was refused, they are the line of 90,
-- unless the output leads to a file which the words may name. Otherwise there are none.
abbrev pub AnswersFault : (leads cut : Bool) (old new : Option (List ℕ)) → WordsFault → Type 0
AnswersFault leads cut old new Memory = TellsUnled leads cut old new refusals.Memory
AnswersFault leads cut old new (Refused text status) = Keeps old new

-- The report at the end of a script: the fault that ended it.
abbrev pub TellsScript : (errors_old errors_new : Option (List ℕ)) → Result ScriptEnd SessionFault → Type 0
TellsScript errors_old errors_new (Ok end) = Keeps errors_old errors_new
TellsScript errors_old errors_new (Err fault) = TellsOf errors_old errors_new (sessions.refusal_of fault)

-- The report on standard error of a run or serving that had begun, and its status: what ended it, and whether a call of
-- the disk had failed.
abbrev pub TellsEnded : (errors_old errors_new : Option (List ℕ)) → Result ⊤ SessionFault → Bool → ℕ → Type 0
TellsEnded errors_old errors_new (Ok done) false status = Keeps errors_old errors_new × (status ≡ WELL)
TellsEnded errors_old errors_new (Ok done) true status = TellsOf errors_old errors_new refusals.Device × (status ≡ ILL)
TellsEnded errors_old errors_new (Err fault) failed status = TellsOf errors_old errors_new (sessions.refusal_of fault) × (status ≡ ILL)

-- The same if somebody else may have meddled with the file meanwhile. If that was seen, it is reported behind the rest,
-- and the status is 1 in any case.
abbrev pub TellsBeside : (errors_old errors_new : Option (List ℕ)) → Option Meddling → Result ⊤ SessionFault → (has_failed : Bool) → ℕ → Type 0
TellsBeside errors_old errors_new None end failed status = TellsEnded errors_old errors_new end failed status
TellsBeside errors_old errors_new (Some meddling) end failed status =
    (errors_told : Option (List ℕ)) × (ended : ℕ) × TellsEnded errors_old errors_told end failed ended × TellsOf errors_told errors_new refusals.Device × (status ≡ ILL)

module _ (before after : ConsoleValue) where
  -- The report of a job on a file that was not done, on both outputs, and its status: the line of its refusal, and why.
  abbrev pub TellsFault : JobFault → ℕ → Type 0
  TellsFault fault status =
      Keeps before.streams.remaining after.streams.remaining
      × AnswersJob after.is_cut before.streams.contents after.streams.contents fault × TellsOf before.errors after.errors (refusal_of fault) × (status ≡ ILL)

  -- The report of how a job on a file ended, on both outputs, and its status. If the output failed, it was cut, and gets
  -- nothing more.
  abbrev pub TellsEnd : Result ⊤ JobFault → ℕ → Type 0
  TellsEnd (Ok done) status = AreKept before.streams after.streams × Keeps before.errors after.errors × (status ≡ WELL)
  TellsEnd (Err faults.Writer) status = (after.is_cut ≡ true) × AreKept before.streams after.streams × TellsOf before.errors after.errors refusals.Stream × (status ≡ ILL)
  TellsEnd (Err fault) status = TellsFault fault status

  -- The report of how a run of a file ended, on both outputs, and its status. Once it has begun, the output gets nothing
  -- more.
  abbrev pub TellsRun : Result FileRun JobFault → ℕ → Type 0
  TellsRun (Ok run) status = AreKept before.streams after.streams × TellsBeside before.errors after.errors run.meddling run.ended.end run.ended.failed status
  TellsRun (Err fault) status = TellsFault fault status

  -- The same if a file was served. Its last line counts as not written if and only if the output was cut.
  abbrev pub TellsServed : Result FileEnd JobFault → ℕ → Type 0
  TellsServed (Ok end) status = AreKept before.streams after.streams × IsTaken after.is_cut end.said × TellsBeside before.errors after.errors end.meddling end.said end.has_failed status
  TellsServed (Err fault) status = TellsFault fault status

-- The effect of a job on the standard streams, and its status. Doubts about the file are reported first. The output may
-- be cut at the end or not.
abbrev pub RunsJob : Job → (before after : ConsoleValue) → ℕ → Type 0
RunsJob Script before after status =
    (end : Result ScriptEnd SessionFault) × RunsScript before.streams after.streams end × (status ≡ status_of_script end)
    × (errors_said : Option (List ℕ)) × SaysOfScript before.is_terminal before.errors errors_said end × TellsScript errors_said after.errors end
RunsJob (Format file journal) before after status =
    (done : ConsoleValue) × (end : Result ⊤ JobFault) × Formats journal before.streams done.streams end × (done.errors ≡ before.errors)
    × TellsEnd done after end status
RunsJob (Check file) before after status =
    (shown : ConsoleValue) × (end : Result ⊤ JobFault) × Checks before shown end × (shown.streams.remaining ≡ before.streams.remaining)
    × TellsEnd shown after end status
RunsJob (Run file batch every) before after status = (done : ConsoleValue) × (end : Result FileRun JobFault) × RunsFile before done end × TellsRun done after end status
RunsJob (Serve file port sessions) before after status =
    (served : ConsoleValue) × (end : Result FileEnd JobFault) × ServesFile (record { port = port; sessions = sessions }) before.streams.contents served.streams.contents end
    × TellsServing before.errors served.errors end × (served.streams.remaining ≡ before.streams.remaining) × TellsServed served after end status

-- Whether some stream leads to a file which the words may name.
abbrev pub is_any : Led → Bool
is_any led = led.input || led.output || led.errors

-- A job that has a file is refused, since some standard stream leads to a file which the words may name. Nothing is
-- read, and standard error gets 91. The output gets the line of 91, unless it leads to such a file.
abbrev pub RefusesStreams : Led → Job → (before after : ConsoleValue) → ℕ → Type 0
RefusesStreams led job before after status =
    HasFile job × (is_any led ≡ true) × Keeps before.streams.remaining after.streams.remaining
    × TellsUnled led.output after.is_cut before.streams.contents after.streams.contents refusals.Device × TellsOf before.errors after.errors refusals.Device × (status ≡ ILL)

-- The effect of the job that words ask for. A terminal gets a hint, and the job is done, unless it is refused for a
-- stream. If the words ask for none, nothing is read, and standard error says why.
abbrev pub RunsAsked : Led → Result Job WordsFault → (before after : ConsoleValue) → ℕ → Type 0
RunsAsked led (Ok job) before after status =
    RefusesStreams led job before after status
    ⊎ ((errors_hinted : Option (List ℕ)) × Says before.errors errors_hinted (hint_text before.is_terminal job) × RunsJob job (record before { errors = errors_hinted }) after status)
RunsAsked led (Err fault) before after status =
    Keeps before.streams.remaining after.streams.remaining × AnswersFault led.output after.is_cut before.streams.contents after.streams.contents fault
    × SaysFault before.errors after.errors fault × HasStatus fault × (status ≡ status_of_fault fault)

-- The job that the words ask for is done. The streams led so to files that the words may name.
abbrev pub RunsProgram : Led → (words : List (List ℕ)) → (before after : ConsoleValue) → ℕ → Type 0
RunsProgram led words before after status = (asked : Result Job WordsFault) × AsksFor words asked × RunsAsked led asked before after status
