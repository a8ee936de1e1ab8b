-- The reads of a device, and how a call that makes them ends.
use Rattle.std.proofs.Common.{◌≡◌, ◌∙◌, ℕ, ◌+◌, ◌≤◌, List, [], refl, sym, ap, arith}
use Rattle.std.specs.Prelude.{Result, Ok, Err, IfErr, IsErrAnd, ⊤}
use Rattle.hpb_disk.specs.Asked.{Asked}
use Rattle.hpb_disk.specs.Device.{Device, MakesCall, MakesReads}
use Rattle.hpb_recover.specs.declared.cause.Cause.{Cause}
use Rattle.hpb_recover.specs.declared.cause.Cause.TheVariants as causes
use Rattle.hpb_recover.specs.Causes.{ended_by, IsTrueOf, OnlyReads}
use Rattle.hpb_recover.specs.Quiet.{IsQuiet}
use Rattle.hpb_recover.proofs.Quietly.{at_most, more_calls, no_calls}

-- Reads of which none failed.
abbrev pub AreDone : ℕ → Device → Device → Type 0
AreDone few old new = OnlyReads {T = ⊤} (Ok tt) few old new

pub no_reads : {here : Device} → AreDone 0 here here
no_reads = record { quiet = no_calls 0; works = refl; asked = refl }

pub reads_done : {T E : Type 0} {x : T} {few : ℕ} {old new : Device} → IsQuiet few old new → MakesReads {E = E} (Ok x) few old new → AreDone few old new
reads_done quiet reads = record { quiet = quiet; works = reads.cause; asked = reads.asked }

-- One call is at most one read.
pub one_read : {T E : Type 0} {result : Result T E} {old new : Device} → MakesCall result [] old new → MakesReads result 1 old new
one_read call = record { few = omega (arith, call.next); cause = call.cause; asked = call.asked }

-- A call ends after such reads, for another cause than the device.
pub ends : {T U : Type 0} {x : U} {few most : ℕ} {old new : Device} (result : Result T Cause) → IfErr result (λ cause. cause ≡ causes.Device → ⊥) → few ≤ most → OnlyReads (Ok x) few old new
    → OnlyReads result most old new
ends (Ok value) other fits done = record { quiet = at_most fits done.quiet; works = done.works; asked = done.asked }
ends (Err (causes.Flawed flaw)) other fits done = record { quiet = at_most fits done.quiet; works = tt; asked = done.asked }
ends (Err causes.Memory) other fits done = record { quiet = at_most fits done.quiet; works = tt; asked = done.asked }
ends (Err causes.Device) other fits done = absurd (other refl)

pub of_memory : {T : Type 0} (result : Result T Cause) → IsErrAnd result (λ cause. cause ≡ causes.Memory) → IfErr result (λ cause. cause ≡ causes.Device → ⊥)
of_memory (Ok x) told = tt
of_memory (Err cause) told = λ device. absurd (cc)

pub of_image : {T : Type 0} (image : List ℕ) (result : Result T Cause) → IfErr result (IsTrueOf image) → IfErr result (λ cause. cause ≡ causes.Device → ⊥)
of_image image (Ok x) is = tt
of_image image (Err (causes.Flawed flaw)) is = λ device. absurd (cc)
of_image image (Err causes.Memory) is = λ device. absurd (cc)
of_image image (Err causes.Device) is = λ device. is

-- It ends because a read failed.
pub read_failed : {T U E : Type 0} {e : E} {few most : ℕ} {old new : Device} (result : Result T Cause) → IsErrAnd result (λ cause. cause ≡ causes.Device) → few ≤ most → IsQuiet few old new
    → MakesReads {T = U} (Err e) few old new → OnlyReads result most old new
read_failed (Ok x) told fits quiet reads = absurd told
read_failed {old = old} (Err cause) told fits quiet reads = record {
  quiet = at_most fits quiet;
  works = tt;
  asked = reads.asked ∙ ap (λ (c : Cause). ended_by c old.asked) (sym told);
}

-- It ends for the cause of another call.
pub told_on : {T U : Type 0} {few : ℕ} {old new : Device} {cause : Cause} → OnlyReads {T = U} (Err cause) few old new → OnlyReads {T = T} (Err cause) few old new
told_on reads = record { quiet = reads.quiet; works = tt; asked = reads.asked }

-- It goes on reading.
pub reads_on : {T U : Type 0} {x : U} {few more most : ℕ} {old middle new : Device} (result : Result T Cause) → few + more ≤ most → OnlyReads (Ok x) few old middle → OnlyReads result more middle new
    → OnlyReads result most old new
reads_on (Ok value) fits done reads = record { quiet = more_calls fits done.quiet reads.quiet; works = reads.works ∙ done.works; asked = reads.asked ∙ done.asked }
reads_on (Err cause) fits done reads = record {
  quiet = more_calls fits done.quiet reads.quiet;
  works = tt;
  asked = reads.asked ∙ ap (λ (l : List Asked). ended_by cause l) done.asked;
}
