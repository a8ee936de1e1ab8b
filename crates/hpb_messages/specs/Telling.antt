-- The bytes written to the output, whole unless it was cut.
use Rattle.std.specs.Prelude.{◌≡◌, ℕ, Bool, true, false, List, Option, Result, Ok, Err, ⊤}
use Rattle.std.specs.Io.KnownBytes.{Appends, Keeps}
use Rattle.hpb_rules.specs.declared.refusal.Refusal.{Refusal}
use Rattle.hpb_rules.specs.Rendering.{refusal_text}
use Rattle.hpb_rules.specs.Text.{line_of}
use Rattle.hpb_server.specs.declared.fault.SessionFault.{SessionFault}
use Rattle.hpb_server.specs.Telling.{Says}
use Rattle.hpb_messages.specs.Faults.{refusal_of}
use Rattle.hpb_messages.specs.declared.job_fault.JobFault.{JobFault}
use Rattle.hpb_messages.specs.declared.job_fault.JobFault.TheVariants as faults
use Rattle.hpb_messages.specs.declared.noted.Noted.{Noted}

-- Whether a stream failed, or took nothing, at the last text.
abbrev pub is_cut : {S : Type 0} → Noted S → Bool
is_cut noted = noted.cut

-- A text was written, all of it; or a front of it if the output was cut.
abbrev pub Tells : (cut : Bool) (old new : Option (List ℕ)) → List ℕ → Type 0
Tells false old new text = Appends old new text
Tells true old new text = Says old new text

-- The one line of a refusal was written.
abbrev pub TellsLine : (cut : Bool) (old new : Option (List ℕ)) → Refusal → Type 0
TellsLine cut old new refusal = Tells cut old new (line_of (refusal_text refusal))

-- The same, unless the output leads to the file of the job: then nothing was written.
abbrev pub TellsUnled : (leads cut : Bool) (old new : Option (List ℕ)) → Refusal → Type 0
TellsUnled false cut old new refusal = TellsLine cut old new refusal
TellsUnled true cut old new refusal = Keeps old new

-- The output counts as failed if and only if it was cut.
abbrev pub IsTaken : (cut : Bool) → Result ⊤ SessionFault → Type 0
IsTaken cut (Ok done) = cut ≡ false
IsTaken cut (Err fault) = cut ≡ true

-- If a job on a file ends because the output failed, the output was cut.
abbrev pub IsCutBy : (cut : Bool) → Result ⊤ JobFault → Type 0
IsCutBy cut (Err faults.Writer) = cut ≡ true
IsCutBy cut end = Unit {0}

-- The bytes written about a job on a file that was not done. They are the line of its refusal, all of it unless the
-- output was cut. If the output failed they are nothing, since a front of another line may stand there.
abbrev pub AnswersJob : (cut : Bool) (old new : Option (List ℕ)) → JobFault → Type 0
AnswersJob cut old new faults.Writer = Keeps old new
AnswersJob cut old new fault = TellsLine cut old new (refusal_of fault)
