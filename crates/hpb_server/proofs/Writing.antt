-- Bytes written in turn.
use Rattle.std.proofs.Common.{◌≡◌, ℕ, ◌+◌, List, [], length, take, drop, Option, Result, Ok, Err, sym, subst, arith, take_all}
use Rattle.std.specs.Bool.{⊤}
use Rattle.std.specs.Io.KnownBytes.{Appends, Keeps}
use Rattle.std.proofs.KnownBytes.{Appends-kept, Appends-nil, Appends-trans}
use Rattle.std.proofs.Math.Seq.{take-add}
use Rattle.hpb_server.specs.Writing.{Puts}

pub sent : {E : Type 0} (a b c : Option (List ℕ)) (bytes : List ℕ) (r : Result ⊤ E) → Appends a b bytes → Keeps b c → Puts a c bytes r
sent a b c bytes (Ok done) p k = Appends-kept a b c bytes p k
sent a b c bytes (Err e) p k = (length bytes, subst (Appends a c) (sym (take_all (length bytes) bytes (omega arith))) (Appends-kept a b c bytes p k))

-- sending no bytes writes nothing
pub none_sent : (a : Option (List ℕ)) (bytes : List ℕ) → bytes ≡ [] → Appends a a bytes
none_sent a bytes none = subst (Appends a a) (sym none) (Appends-nil a)

pub wrote_more : (a b c : Option (List ℕ)) (bytes : List ℕ) (at n : ℕ) → Appends a b (take at bytes) → Appends b c (take n (drop at bytes)) → Appends a c (take (at + n) bytes)
wrote_more a b c bytes at n p q = subst (Appends a c) (sym (take-add at n bytes)) (Appends-trans a b c _ _ p q)
