-- The bytes that were written are a front of those that were to be written.
use Rattle.std.proofs.Common.{ℕ, List, [], take, drop, Option, Result, Ok, Err, sym, take-append-drop}
use Rattle.std.specs.Bool.{⊤}
use Rattle.std.specs.Io.KnownBytes.{Appends}
use Rattle.hpb_rules.specs.Fronts.{IsFront}
use Rattle.hpb_rules.proofs.Lists.{append_nil}
use Rattle.hpb_server.specs.Writing.{Puts}

-- the bytes that the writer took are a front
pub put_front : {E : Type 0} (a b : Option (List ℕ)) (bytes : List ℕ) (r : Result ⊤ E) → Puts a b bytes r → (sent : List ℕ) × Appends a b sent × IsFront sent bytes
put_front a b bytes (Ok done) p = (bytes, p, ([], append_nil bytes))
put_front a b bytes (Err e) p = (take p.0 bytes, p.1, (drop p.0 bytes, sym (take-append-drop p.0 bytes)))
