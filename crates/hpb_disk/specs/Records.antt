-- The writes in the record of a device in memory.
use Rattle.std.specs.Prelude.{ℕ, List, [], ◌∷◌}
use Rattle.hpb_disk.specs.declared.done.Done.{Done}
use Rattle.hpb_disk.specs.declared.done.Done.TheVariants.{Read, Write, Sync}

-- The writes of a record, by offset and bytes.
abbrev pub writes_of : List Done → List (ℕ × List ℕ)
writes_of [] = []
writes_of (Write at bytes ∷ others) = (at, bytes.items) ∷ writes_of others
writes_of (Read ∷ others) = writes_of others
writes_of (Sync ∷ others) = writes_of others
