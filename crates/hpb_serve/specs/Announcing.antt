-- The line that is written about the port.
-- Source: this project's own.
use Rattle.std.specs.Prelude.{◌⊎◌, ℕ, List, ◌++◌, Option, Result, Ok, Err, codes, decimal}
use Rattle.std.specs.Io.KnownBytes.{Appends, Keeps}
use Rattle.hpb_rules.specs.Fronts.{IsFront}
use Rattle.hpb_serve.specs.declared.fault.ServeFault.{ServeFault}
use Rattle.hpb_serve.specs.declared.fault.ServeFault.TheVariants.{Memory, Writer, Start, Order, Counts}

-- **The bytes written.** One line with the port is written before the first session. If serving ends ill, as much of
-- the line is written as the fault leaves.
--
-- The line with a port to which clients can connect.
abbrev pub listening_line : ℕ → List ℕ
listening_line port = codes "LISTENING " ++ decimal port ++ codes "\n"

-- The line is written before the first session. If the house isn't started, nothing is written; if the writer fails, a
-- front of the line. Memory may be refused before it or behind it.
abbrev pub Announces : {A D : Type 0} → List ℕ → (old new : Option (List ℕ)) → Result A (ServeFault D) → Type 0
Announces line old new (Ok done) = Appends old new line
Announces line old new (Err Memory) = Keeps old new ⊎ Appends old new line
Announces line old new (Err Writer) = (sent : List ℕ) × Appends old new sent × IsFront sent line
Announces line old new (Err (Start cause)) = Keeps old new
Announces line old new (Err (Order client)) = Appends old new line
Announces line old new (Err (Counts differing)) = Appends old new line

-- A fault that comes after the line.
abbrev pub IsBehind : {D : Type 0} → ServeFault D → Type 0
IsBehind Memory = Unit {0}
IsBehind Writer = ⊥
IsBehind (Start cause) = ⊥
IsBehind (Order client) = Unit {0}
IsBehind (Counts differing) = Unit {0}

-- A fault of writing the line.
abbrev pub IsOfWriting : {D : Type 0} → ServeFault D → Type 0
IsOfWriting Memory = Unit {0}
IsOfWriting Writer = Unit {0}
IsOfWriting (Start cause) = ⊥
IsOfWriting (Order client) = ⊥
IsOfWriting (Counts differing) = ⊥
