-- The line of a refused definition, and the reason for people.
use Rattle.std.proofs.Common.{◌≡◌, ℕ, Bool, List, take, drop, Option, refl, sym, ◌∙◌, subst, take-append-drop, inl, inr}
use Rattle.std.specs.Prelude.{Result, Ok, Err}
use Rattle.std.specs.Result.{IsErrAnd}
use Rattle.std.specs.Io.KnownBytes.{Appends}
use Rattle.std.proofs.KnownBytes.{Appends-nil}
use Rattle.hpb_rules.specs.declared.refusal.Refusal.{Refusal}
use Rattle.hpb_rules.specs.Rendering.{refusal_text}
use Rattle.hpb_rules.specs.Text.{line_of}
use Rattle.hpb_define.specs.declared.fault.DefineCause.{DefineCause}
use Rattle.hpb_define.specs.declared.fault.DefineCause.TheVariants as defining
use Rattle.hpb_define.specs.Fault.{refusal_of}
use Rattle.hpb_server.specs.declared.fault.SessionFault.{SessionFault}
use Rattle.hpb_server.specs.declared.fault.SessionFault.TheVariants as faults
use Rattle.hpb_server.specs.declared.script.ScriptEnd.{ScriptEnd}
use Rattle.hpb_server.specs.declared.script.ScriptEnd.TheVariants.{Answered, Refused}
use Rattle.hpb_server.specs.Script.{IsTold, WritesRefusal, Refuses}
use Rattle.hpb_server.specs.Telling.{SaysAccepted, SaysOfScript, TellsOf}
use Rattle.hpb_server.specs.Writing.{Sends}
use Rattle.hpb_server.proofs.Errors.{err_case}

pub refusal_cut : (old new : Option (List ℕ)) {output : List ℕ} (refusal : Refusal) (fault : SessionFault) (r : Result ScriptEnd SessionFault) → IsErrAnd r (λ e. e ≡ fault) → output ≡ line_of (refusal_text refusal) → Sends old new output (Err fault) → WritesRefusal old new refusal r
refusal_cut old new {output = output} refusal fault r bad is s = err_case (WritesRefusal old new refusal) r bad (λ other same. inr (same ∙ s.0, take s.1 output, s.2, (drop s.1 output, sym is ∙ sym (take-append-drop s.1 output))))

-- memory was refused
pub refusal_unwritten : (old : Option (List ℕ)) (refusal : Refusal) (r : Result ScriptEnd SessionFault) → IsErrAnd r (λ e. e ≡ faults.Memory) → WritesRefusal old old refusal r
refusal_unwritten old refusal r bad = err_case (WritesRefusal old old refusal) r bad (λ other is. inl (is, Appends-nil old))

pub refusal_told : (old new : Option (List ℕ)) (fault : DefineCause) (refusal : Refusal) (r : Result ScriptEnd SessionFault) → IsTold fault refusal → WritesRefusal old new refusal r → Refuses old new fault r
refusal_told old new fault refusal (Ok Answered) told w = absurd w
refusal_told old new fault refusal (Ok (Refused other)) told w = (subst (IsTold fault) (sym w.0) told, subst (λ (refusal : Refusal). Appends old new (line_of (refusal_text refusal))) (sym w.0) w.1)
refusal_told old new fault refusal (Err broken) told (inl none) = inl none
refusal_told old new fault refusal (Err broken) told (inr some) = inr (some.0, refusal, some.1, told, some.2, some.3)

-- a refusal other than of memory is reported by its number
pub told_by : (fault : DefineCause) (refusal : Refusal) → (fault ≡ defining.Memory → ⊥) → refusal ≡ refusal_of fault → IsTold fault refusal
told_by defining.Memory refusal other is = absurd (other refl)
told_by defining.Json refusal other is = is
told_by defining.Field refusal other is = is
told_by defining.Number refusal other is = is
told_by (defining.Refused fault) refusal other is = is

told_as : (cause : DefineCause) (refusal : Refusal) → IsTold cause refusal → refusal_of cause ≡ refusal
told_as defining.Memory refusal told = absurd told
told_as defining.Json refusal told = sym told
told_as defining.Field refusal told = sym told
told_as defining.Number refusal told = sym told
told_as (defining.Refused fault) refusal told = sym told

-- people get the reason for the refusal that is written
pub said_of_refused : (is_terminal : Bool) (old new errors_old errors_new : Option (List ℕ)) (cause : DefineCause) (r : Result ScriptEnd SessionFault) → Refuses old new cause r
    → TellsOf errors_old errors_new (refusal_of cause) → SaysOfScript is_terminal errors_old errors_new r
said_of_refused is_terminal old new errors_old errors_new cause (Ok Answered) w told = absurd w
said_of_refused is_terminal old new errors_old errors_new cause (Ok (Refused refusal)) w told = subst (TellsOf errors_old errors_new) (told_as cause refusal w.0) told
said_of_refused is_terminal old new errors_old errors_new cause (Err fault) w told = inr (refusal_of cause, told)

-- a later fault doesn't take back a reason that was written
pub said_before : (is_terminal : Bool) (errors_old errors_new : Option (List ℕ)) (fault : SessionFault) (r : Result ScriptEnd SessionFault) → IsErrAnd r (λ e. e ≡ fault)
    → SaysAccepted is_terminal errors_old errors_new → SaysOfScript is_terminal errors_old errors_new r
said_before is_terminal errors_old errors_new fault r bad says = err_case (SaysOfScript is_terminal errors_old errors_new) r bad (λ other is. inl says)
