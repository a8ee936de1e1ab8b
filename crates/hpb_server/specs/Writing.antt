-- The bytes that a writer takes.
use Rattle.std.specs.Prelude.{◌≡◌, ℕ, ◌<◌, ◌≤◌, List, length, take, Option, Result, Ok, Err, ⊤}
use Rattle.std.specs.Io.KnownBytes.{Appends, Keeps}
use Rattle.hpb_server.specs.declared.fault.SessionFault.{SessionFault}
use Rattle.hpb_server.specs.declared.fault.SessionFault.TheVariants.{Writer}

-- The writer took a front of at least one byte, or nothing.
abbrev pub Writes : {E : Type 0} → Option (List ℕ) → Option (List ℕ) → List ℕ → Result ℕ E → Type 0
Writes old new bytes (Ok n) = (0 < n) × (n ≤ length bytes) × Appends old new (take n bytes)
Writes old new bytes (Err failed) = Keeps old new

-- The writer took all bytes, or a front of them.
abbrev pub Puts : {E : Type 0} → Option (List ℕ) → Option (List ℕ) → List ℕ → Result ⊤ E → Type 0
Puts old new bytes (Ok done) = Appends old new bytes
Puts old new bytes (Err failed) = (n : ℕ) × Appends old new (take n bytes)

-- The writer took all bytes, or a front of them with the fault that the writer failed.
abbrev pub Sends : Option (List ℕ) → Option (List ℕ) → List ℕ → Result ⊤ SessionFault → Type 0
Sends old new bytes (Ok done) = Appends old new bytes
Sends old new bytes (Err fault) = (fault ≡ Writer) × (n : ℕ) × Appends old new (take n bytes)
