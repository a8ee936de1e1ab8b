-- How the auction that a file keeps is run.
use Rattle.std.proofs.Common.{◌≡◌, ℕ, Bool, false, List, Option, Result, sym, subst, refl, inl, inr, ⊎_elim}
use Rattle.std.specs.Bool.{⊤}
use Rattle.std.proofs.KnownBytes.{Keeps-refl}
use Rattle.hpb_rules.specs.declared.command.Command.{Command}
use Rattle.hpb_rules.specs.AuctionValue.{AuctionValue, Shows}
use Rattle.hpb_rules.specs.Machine.{at_rest}
use Rattle.hpb_disk.specs.declared.disk.Disk.{Ghosts}
use Rattle.hpb_disk.specs.declared.fault.FileFault.{FileFault}
use Rattle.hpb_disk.specs.Device.{Device}
use Rattle.hpb_recover.specs.Readings.{last_value, Found, Reads}
use Rattle.hpb_recover.specs.Standing.{Stands}
use Rattle.hpb_engine.specs.declared.engine.Engine.{Engine}
use Rattle.hpb_engine.specs.Engines.{Keeps, running_of}
use Rattle.hpb_recover.specs.declared.cause.Cause.{Cause}
use Rattle.hpb_recover.specs.declared.cause.Cause.TheVariants as opening
use Rattle.hpb_recover.specs.Causes.{IsCauseAt}
use Rattle.hpb_run.specs.Device.{at_start}
use Rattle.hpb_run.specs.Running.{RunsFrom, ServesFrom}
use Rattle.hpb_server.specs.declared.fault.SessionFault.{SessionFault}
use Rattle.hpb_server.specs.Streams.{AreKept, Streams, streams}
use Rattle.hpb_messages.specs.declared.job_fault.JobFault.{JobFault}
use Rattle.hpb_messages.specs.declared.job_fault.JobFault.TheVariants as faults
use Rattle.hpb_messages.specs.Faults.{made_of_file, made_of_opening}
use Rattle.hpb_program.specs.Keeping.{IsNotOpened, IsOfOpening, IsRun}
use Rattle.hpb_program.proofs.Doubting.{of_each_not_opened}
use Rattle.hpb_program.proofs.Files.{of_each_file}

-- nothing was read or written
pub are_kept : (a b : Option (List ℕ)) → AreKept (streams a b) (streams a b)
are_kept a b = (Keeps-refl a, Keeps-refl b)

-- an engine was run with the auction that is read on a device, and it keeps each history for which the device stood
module _ {D : Type 0} {disk : Ghosts D} (opened : Device) (before after : Streams) (old new : Engine D disk) (end : Result ⊤ SessionFault)
    (read : (found : Found) × Reads found opened.seen × (old.progress.committed ≡ last_value found))
    (keeps : (history : List Command) → Stands history opened.seen → Keeps old (at_rest history))
    (works : old.failed ≡ false) (same : (disk.device old.disk).failures ≡ opened.failures) (ran : RunsFrom before after old new end) where
  pub is_run : IsRun opened before after (running_of new) end
  is_run = record {
    found = read.0;
    reads = read.1;
    shows = λ history stands. subst (λ (value : AuctionValue). Shows value history) read.2 (keeps history stands).shows;
    serves = λ history stands.
        let ServesAt : AuctionValue → ℕ → Bool → Type 0 = λ value failures failed. ServesFrom before after (at_start value.rules history failures failed) (running_of new) end in
        let of_number = subst (λ (n : ℕ). ServesAt old.progress.committed n old.failed) same (ran history (keeps history stands)) in
        subst (λ (value : AuctionValue). ServesAt value opened.failures false) read.2 (subst (λ (b : Bool). ServesAt old.progress.committed opened.failures b) works of_number);
  }

-- why a device is not opened
pub not_opened : (old new : Device) (cause : Cause) (made : JobFault) → made ≡ made_of_opening cause → IsCauseAt old new cause → IsNotOpened old.seen made
not_opened old new cause made is at = subst (IsNotOpened old.seen) (sym is) (go cause at)
  where
    go : (cause : Cause) → IsCauseAt old new cause → IsNotOpened old.seen (made_of_opening cause)
    go (opening.Flawed flaw) at = at
    go opening.Memory at = inl refl
    go opening.Device at = inr refl

-- that is a fault of opening
pub of_not_opened : (image : List ℕ) (fault : JobFault) → IsNotOpened image fault → IsOfOpening fault
of_not_opened image = of_each_not_opened image IsOfOpening tt tt (λ flaw has. tt)

-- and so is the fault of a file that is not opened
pub of_opening : (fault : FileFault) (made : JobFault) → made ≡ made_of_file fault → IsOfOpening made
of_opening = of_each_file IsOfOpening tt (λ fault. tt)
