-- Calls of a device one after another, while it is formatted.
use Rattle.std.proofs.Common.{◌≡◌, ℕ, ◌+◌, ◌≤◌, List, [], ◌∷◌, ◌++◌, length, refl, ◌∙◌, ap, arith}
use Rattle.std.specs.Prelude.{Result, Ok, Err, IsErrAnd}
use Rattle.hpb_codec.specs.declared.layout.JournalShape.{JournalShape}
use Rattle.hpb_disk.specs.Asked.{Asked}
use Rattle.hpb_disk.specs.Asked.Asked.{syncs}
use Rattle.hpb_disk.specs.Device.{Device, IsUnchanged, LeavesOnly, MakesCall, MakesReads}
use Rattle.hpb_disk.proofs.Runs.{leaves_at_first}
use Rattle.hpb_disk.proofs.Turns.{and_then, at_first, at_later, in_turn}
use Rattle.hpb_format.proofs.Closed.{closes_on, quiet_closes}
use Rattle.hpb_format.proofs.Runs.{keeps_join, quiet_keeps}
use Rattle.hpb_format.proofs.Turns.{more_closings, no_closings, one_closing, widen}
use Rattle.hpb_format.specs.Asking.{Closes, IsClosing, MakesCalls, Writes}
use Rattle.hpb_format.specs.Stages.{OnlyCloses}

-- No call, and one.
pub none_made : {T E : Type 0} (answer : T) (here : Device) → MakesCalls {E = E} (Ok answer) [] here here
none_made answer here = record { size = refl; cause = refl; asks = refl }

pub call_made : {T E : Type 0} {result : Result T E} {call : List Asked} {old new : Device} → length new.seen ≡ length old.seen → MakesCall result call old new → MakesCalls result call old new
call_made {result = result} {call = call} {old = old} {new = new} size is = record { size = size; cause = is.cause; asks = in_turn result call old.asked new.asked is.asked }

pub sync_made : {T E : Type 0} {result : Result T E} {old new : Device} → new.seen ≡ old.seen → MakesCall result (syncs ∷ []) old new → MakesCalls result (syncs ∷ []) old new
sync_made same = call_made (ap (λ (l : List ℕ). length l) same)

-- Reads.
pub reads_made : {T E : Type 0} {result : Result T E} {most : ℕ} {old new : Device} → IsUnchanged old new → MakesReads result most old new → MakesCalls result [] old new
reads_made {result = result} {old = old} {new = new} is reads = record { size = ap (λ (l : List ℕ). length l) is.seen; cause = reads.cause; asks = in_turn result [] old.asked new.asked reads.asked }

-- Calls after others.
pub calls_join : {T E U F : Type 0} {value : U} (result : Result T E) {one two : List Asked} {old middle new : Device} → MakesCalls {T = U} {E = F} (Ok value) one old middle → MakesCalls result two middle new
    → MakesCalls result (two ++ one) old new
calls_join (Ok answer) {one = one} {two = two} {old = old} {middle = middle} {new = new} first second =
    record { size = second.size ∙ first.size; cause = second.cause ∙ first.cause; asks = and_then one two old.asked middle.asked new.asked first.asks second.asks }
calls_join (Err error) {one = one} {two = two} {old = old} {middle = middle} {new = new} first second =
    record { size = second.size ∙ first.size; cause = omega (arith, first.cause, second.cause); asks = at_later one two old.asked middle.asked new.asked first.asks second.asks }

-- Calls that succeeded, by another answer.
pub calls_done : {T E U F : Type 0} {value : U} (answer : T) {calls : List Asked} {old new : Device} → MakesCalls {T = U} {E = F} (Ok value) calls old new → MakesCalls {E = E} (Ok answer) calls old new
calls_done answer made = record { size = made.size; cause = made.cause; asks = made.asks }

-- A call failed, and later ones weren't made.
pub calls_break : {T E U F : Type 0} {error : F} (P : E → Type 0) (result : Result T E) (later : List Asked) {calls : List Asked} {old new : Device} → IsErrAnd result P
    → MakesCalls {T = U} {E = F} (Err error) calls old new → MakesCalls result (later ++ calls) old new
calls_break P (Ok answer) later bad made = absurd bad
calls_break P (Err error) later {calls = calls} {old = old} {new = new} failed made = record { size = made.size; cause = made.cause; asks = at_first calls later old.asked new.asked made.asks }

-- Calls behind the closed gate of the head: none, a sync, calls after others, and a call that failed.
pub none_writes : {T E : Type 0} (answer : T) (here : Device) → Writes {E = E} (Ok answer) [] here here
none_writes answer here = (none_made answer here, quiet_keeps (leaves_at_first here here.may_leave (λ image may. may)))

pub sync_writes : {T E : Type 0} {result : Result T E} {old new : Device} → new.seen ≡ old.seen → LeavesOnly old new old.may_leave → MakesCall result (syncs ∷ []) old new → Writes result (syncs ∷ []) old new
sync_writes same leaves call = (sync_made same call, quiet_keeps leaves)

pub writes_join : {T E U F : Type 0} {value : U} (result : Result T E) {one two : List Asked} {old middle new : Device} → Writes {T = U} {E = F} (Ok value) one old middle → Writes result two middle new
    → Writes result (two ++ one) old new
writes_join result first second = (calls_join result first.0 second.0, keeps_join first.1 second.1)

pub writes_done : {T E U F : Type 0} {value : U} (answer : T) {calls : List Asked} {old new : Device} → Writes {T = U} {E = F} (Ok value) calls old new → Writes {E = E} (Ok answer) calls old new
writes_done answer made = (calls_done answer made.0, made.1)

pub writes_break : {T E U F : Type 0} {error : F} (P : E → Type 0) (result : Result T E) (later : List Asked) {calls : List Asked} {old new : Device} → IsErrAnd result P
    → Writes {T = U} {E = F} (Err error) calls old new → Writes result (later ++ calls) old new
writes_break P result later failed made = (calls_break P result later failed made.0, made.1)

-- Calls that close gates: none, a read, a write, calls after others, and a call that failed.
module _ (journal : JournalShape) where
  pub read_closes : {T E U F : Type 0} {value : U} (answer : T) (most : ℕ) {old new : Device} → IsUnchanged old new → MakesCall {T = U} {E = F} (Ok value) [] old new → Closes {E = E} journal most (Ok answer) old new
  read_closes answer most is call = ([], no_closings journal most, record { size = ap (λ (l : List ℕ). length l) is.seen; cause = call.cause; asks = call.asked }, quiet_closes is.leaves)

  pub read_fails : {T E U F : Type 0} {error : F} (P : E → Type 0) (result : Result T E) (most : ℕ) {old new : Device} → IsErrAnd result P → IsUnchanged old new → MakesCall {T = U} {E = F} (Err error) [] old new
      → Closes journal most result old new
  read_fails P result most failed is call =
      ([], no_closings journal most, calls_break P result [] failed (call_made (ap (λ (l : List ℕ). length l) is.seen) call), quiet_closes is.leaves)

  pub none_closes : {T E : Type 0} (answer : T) (most : ℕ) (here : Device) → Closes {E = E} journal most (Ok answer) here here
  none_closes answer most here = ([], no_closings journal most, none_made answer here, quiet_closes (leaves_at_first here here.may_leave (λ image may. may)))

  pub one_closes : {T E : Type 0} {result : Result T E} {old new : Device} (call : Asked) → IsClosing journal call → length new.seen ≡ length old.seen → MakesCall result (call ∷ []) old new → OnlyCloses old new
      → Closes journal 1 result old new
  one_closes call is size made only = (call ∷ [], one_closing journal call is, call_made size made, only)

  pub closes_join : {T E U F : Type 0} {value : U} (result : Result T E) (few more most : ℕ) {old middle new : Device} → few + more ≤ most → Closes {T = U} {E = F} journal few (Ok value) old middle
      → Closes journal more result middle new → Closes journal most result old new
  closes_join result few more most fits first second =
      (second.0 ++ first.0, more_closings journal few more most first.0 second.0 fits first.1 second.1, calls_join result first.2 second.2, closes_on first.3 second.3)

  pub closes_after : {T E U F : Type 0} {value : U} (result : Result T E) (most : ℕ) {old middle new : Device} → IsUnchanged old middle → MakesCall {T = U} {E = F} (Ok value) [] old middle
      → Closes journal most result middle new → Closes journal most result old new
  closes_after result most is call = closes_join result 0 most most (omega arith) (read_closes {T = Unit {0}} {E = Unit {0}} tt 0 is call)

  pub closes_done : {T E U F : Type 0} {value : U} (answer : T) (few most : ℕ) {old new : Device} → few ≤ most → Closes {T = U} {E = F} journal few (Ok value) old new → Closes {E = E} journal most (Ok answer) old new
  closes_done answer few most le made = (made.0, widen journal few most made.0 le made.1, calls_done answer made.2, made.3)

  pub closes_break : {T E U F : Type 0} {error : F} (P : E → Type 0) (result : Result T E) (few most : ℕ) {old new : Device} → few ≤ most → IsErrAnd result P
      → Closes {T = U} {E = F} journal few (Err error) old new → Closes journal most result old new
  closes_break P result few most le failed made = (made.0, widen journal few most made.0 le made.1, calls_break P result [] failed made.2, made.3)
