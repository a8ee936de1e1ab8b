-- The bytes written while an auction is served.
use Rattle.std.proofs.Common.{◌≡◌, ℕ, List, Option, Err, sym, subst, refl, inl, ⊎_elim}
use Rattle.std.proofs.KnownBytes.{Keeps-refl}
use Rattle.hpb_rules.specs.AuctionValue.{AuctionValue}
use Rattle.hpb_disk.specs.Device.{Device}
use Rattle.hpb_disk.specs.declared.fault.FileFault.{FileFault}
use Rattle.hpb_house.proofs.Leaving.{gives_for}
use Rattle.hpb_house.specs.declared.starting.StartCause.TheVariants as starting
use Rattle.hpb_recover.specs.declared.cause.Cause.TheVariants as opening
use Rattle.hpb_serve.specs.Announcing.{listening_line, Announces}
use Rattle.hpb_serve.specs.Ended.{EndsAll}
use Rattle.hpb_serve.specs.declared.fault.ServeFault.{ServeFault}
use Rattle.hpb_serve.specs.declared.fault.ServeFault.TheVariants as serving
use Rattle.hpb_serve.specs.declared.serving.Served.{Served}
use Rattle.hpb_messages.specs.declared.job_fault.JobFault.{JobFault}
use Rattle.hpb_messages.specs.declared.job_fault.JobFault.TheVariants as faults
use Rattle.hpb_program.specs.declared.serving.Seats.{Seats}
use Rattle.hpb_program.specs.Jobs.{made_of_serving}
use Rattle.hpb_messages.specs.Faults.{made_of_file}
use Rattle.hpb_program.specs.Keeping.{IsNotOpened}
use Rattle.hpb_program.specs.Serving.{IsOfDescriptors, IsReadable, IsUnserved, ServesFile}
use Rattle.hpb_program.proofs.Doubting.{of_each_not_opened}
use Rattle.hpb_program.proofs.Files.{of_each_file}

-- a device that is not opened is not served, and nothing is written
pub unopened : (image : List ℕ) (port : ℕ) (contents : Option (List ℕ)) (fault : JobFault) → IsNotOpened image fault → IsUnserved image port contents contents fault
unopened image port contents =
    let keeps = Keeps-refl contents in
    of_each_not_opened image (IsUnserved image port contents contents) (inl keeps) (keeps, refl) (λ flaw has. (keeps, has))

-- a device that is opened is not served to its end
pub unserved : (D : Type 0) (image : List ℕ) (port : ℕ) (old new : Option (List ℕ)) (fault : ServeFault D) (made : JobFault) → IsReadable image → made ≡ made_of_serving fault
    → Announces {A = Served D} (listening_line port) old new (Err fault) → IsUnserved image port old new made
unserved D image port old new fault made read is written = subst (λ (m : JobFault). IsUnserved image port old new m) (sym is) (go fault written)
  where
    go : (fault : ServeFault D) → Announces {A = Served D} (listening_line port) old new (Err fault) → IsUnserved image port old new (made_of_serving fault)
    go serving.Memory written = written
    go serving.Writer written = (read, written)
    go (serving.Start starting.Memory) written = inl written
    go (serving.Start starting.Place) written = (read, written)
    go (serving.Order client) written = (read, written)
    go (serving.Counts differing) written = (read, written)

-- the sessions on a device end so if it was opened with the same bytes, after as many failed calls
pub ends_for : {D : Type 0} {device : D → Device} {opened other : Device} {before : AuctionValue} {sessions : ℕ} {served : Served D} → opened.seen ≡ other.seen → opened.failures ≡ other.failures
    → EndsAll device opened before sessions served → EndsAll device other before sessions served
ends_for seen failures ends = record {
  seats = ends.seats;
  closed = record { agree = ends.closed.agree; once = ends.closed.once; rest = ends.closed.rest; back = gives_for seen failures ends.closed.back };
}

-- a file that is not opened is not served
pub unopened_file : (seats : Seats) (contents : Option (List ℕ)) (fault : FileFault) (made : JobFault) → made ≡ made_of_file fault → ServesFile seats contents contents (Err made)
unopened_file seats contents = of_each_file (λ made. ServesFile seats contents contents (Err made)) (inl (Keeps-refl contents)) (λ fault. Keeps-refl contents)

-- if the process may have too few files and connections at a time, nothing is served
pub unheld : (seats : Seats) (contents : Option (List ℕ)) (fault : JobFault) → IsOfDescriptors fault → ServesFile seats contents contents (Err fault)
unheld seats contents faults.Memory is = inl (Keeps-refl contents)
unheld seats contents (faults.Descriptors held wanted error) is = Keeps-refl contents
unheld seats contents (faults.File fault) is = absurd is
unheld seats contents (faults.Open cause) is = absurd is
unheld seats contents faults.Reader is = absurd is
unheld seats contents faults.Writer is = absurd is
unheld seats contents (faults.Definition refusal) is = absurd is
unheld seats contents faults.Journal is = absurd is
unheld seats contents (faults.Format cause) is = absurd is
unheld seats contents (faults.Port at error) is = absurd is
unheld seats contents faults.Place is = absurd is
unheld seats contents faults.Order is = absurd is
unheld seats contents faults.Counts is = absurd is

-- if the device in a file is not served, the file is not
pub of_device : (image : List ℕ) (seats : Seats) (old new : Option (List ℕ)) (fault : JobFault) → IsUnserved image seats.port old new fault → ServesFile seats old new (Err fault)
of_device image seats old new faults.Memory kept = kept
of_device image seats old new (faults.File fault) kept = absurd kept
of_device image seats old new (faults.Open cause) kept = (image, kept)
of_device image seats old new faults.Reader kept = absurd kept
of_device image seats old new faults.Writer kept = (image, kept)
of_device image seats old new (faults.Definition refusal) kept = absurd kept
of_device image seats old new faults.Journal kept = absurd kept
of_device image seats old new (faults.Format cause) kept = absurd kept
of_device image seats old new (faults.Port at error) kept = (image, kept)
of_device image seats old new (faults.Descriptors held wanted error) kept = absurd kept
of_device image seats old new faults.Place kept = (image, kept)
of_device image seats old new faults.Order kept = (image, kept)
of_device image seats old new faults.Counts kept = (image, kept)
