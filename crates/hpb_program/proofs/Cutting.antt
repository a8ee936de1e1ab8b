-- Faults of jobs that don't come from the output.
use Rattle.std.proofs.Common.{◌≡◌, ℕ, Bool, List, Option, Err, sym, subst, ⊎_elim}
use Rattle.hpb_define.specs.declared.fault.DefineCause.{DefineCause}
use Rattle.hpb_define.specs.declared.fault.DefineCause.TheVariants as defining
use Rattle.hpb_define.specs.declared.fault.DefineFault.{DefineFault}
use Rattle.hpb_disk.specs.declared.fault.FileFault.{FileFault}
use Rattle.hpb_recover.specs.declared.cause.Cause.{Cause}
use Rattle.hpb_recover.specs.declared.cause.Cause.TheVariants as opening
use Rattle.hpb_messages.specs.declared.job_fault.JobFault.{JobFault}
use Rattle.hpb_messages.specs.declared.job_fault.JobFault.TheVariants as faults
use Rattle.hpb_program.specs.Jobs.{IsOfFile, StopsReading}
use Rattle.hpb_messages.specs.Faults.{made_by, made_of_definition, made_of_file, made_of_opening}
use Rattle.hpb_messages.specs.Telling.{IsCutBy}
use Rattle.hpb_program.proofs.Files.{of_each_file, of_each_made}

module _ (cut : Bool) where
  abbrev IsElse : JobFault → Type 0
  IsElse fault = IsCutBy cut (Err fault)

  -- of reading
  pub of_reading : (old new : Option (List ℕ)) (fault : JobFault) → StopsReading old new fault → IsCutBy cut (Err fault)
  of_reading old new fault stops = ⊎_elim (λ (e : fault ≡ faults.Memory). subst IsElse (sym e) tt) (λ (e : fault ≡ faults.Reader). subst IsElse (sym e) tt) stops.1

  -- of a definition
  pub of_definition : (fault : DefineFault) (made : JobFault) → made ≡ made_of_definition fault → IsCutBy cut (Err made)
  of_definition fault made is = subst IsElse (sym is) (go fault.cause)
    where
      go : (cause : DefineCause) → IsElse (made_by cause fault)
      go defining.Memory = tt
      go defining.Json = tt
      go defining.Field = tt
      go defining.Number = tt
      go (defining.Refused f) = tt

  -- of a file that was to be formatted
  pub of_file : (fault : JobFault) → IsOfFile fault → IsCutBy cut (Err fault)
  of_file = of_each_made IsElse tt (λ fault. tt) (λ cause. tt)

  -- of a file that was to be opened
  pub of_opened_file : (fault : FileFault) (made : JobFault) → made ≡ made_of_file fault → IsCutBy cut (Err made)
  of_opened_file = of_each_file IsElse tt (λ fault. tt)

  -- of its contents
  pub of_opening : (cause : Cause) (made : JobFault) → made ≡ made_of_opening cause → IsCutBy cut (Err made)
  of_opening cause made is = subst IsElse (sym is) (go cause)
    where
      go : (cause : Cause) → IsElse (made_of_opening cause)
      go opening.Memory = tt
      go opening.Device = tt
      go (opening.Flawed flaw) = tt
