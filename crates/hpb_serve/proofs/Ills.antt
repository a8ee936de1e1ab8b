-- Faults of serving.
use Rattle.std.proofs.Common.{ℕ, List, Option, Result, Ok, Err, IfErr, inr}
use Rattle.std.specs.Bool.{⊤}
use Rattle.std.specs.Io.KnownBytes.{Appends}
use Rattle.hpb_rules.specs.AuctionValue.{AuctionValue}
use Rattle.hpb_disk.specs.Device.{Device}
use Rattle.hpb_serve.specs.Announcing.{Announces, IsBehind, IsOfWriting}
use Rattle.hpb_serve.specs.Ended.{EndsIll}
use Rattle.hpb_serve.specs.declared.fault.ServeFault.{ServeFault}
use Rattle.hpb_serve.specs.declared.fault.ServeFault.TheVariants.{Memory, Writer, Start, Order, Counts}

-- a fault of writing has no fact but the bytes written
pub of_writing : {D : Type 0} (device : D → Device) (opened : Device) (before : AuctionValue) (sessions : ℕ) (fault : ServeFault D) → IsOfWriting fault → EndsIll device opened before sessions fault
of_writing device opened before sessions Memory is = tt
of_writing device opened before sessions Writer is = tt
of_writing device opened before sessions (Start cause) is = absurd is
of_writing device opened before sessions (Order client) is = absurd is
of_writing device opened before sessions (Counts differing) is = absurd is

-- with a fault, the bytes written don't depend on the kind of result
pub written_as : (A : Type 0) {D : Type 0} (line : List ℕ) (old new : Option (List ℕ)) (fault : ServeFault D) → Announces {A = ⊤} line old new (Err fault) → Announces {A = A} line old new (Err fault)
written_as A line old new Memory is = is
written_as A line old new Writer is = is
written_as A line old new (Start cause) is = is
written_as A line old new (Order client) is = is
written_as A line old new (Counts differing) is = is

-- if a fault comes after the line, the line is written, whatever comes after it
pub written_by : (A : Type 0) {D : Type 0} (line : List ℕ) (old new : Option (List ℕ)) (result : Result A (ServeFault D)) → IfErr result IsBehind → Appends old new line → Announces {A = A} line old new result
written_by A line old new (Ok done) is appends = appends
written_by A line old new (Err Memory) is appends = inr appends
written_by A line old new (Err Writer) is appends = absurd is
written_by A line old new (Err (Start cause)) is appends = absurd is
written_by A line old new (Err (Order client)) is appends = appends
written_by A line old new (Err (Counts differing)) is appends = appends
