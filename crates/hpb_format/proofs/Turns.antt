-- Writes that close gates, and those of chunks.
use Rattle.std.proofs.Common.{◌≡◌, ℕ, zero, suc, ◌+◌, ◌-◌, ◌<◌, ◌≤◌, List, [], ◌∷◌, ◌++◌, sym, ◌∙◌, ap, length-append, arith}
use Rattle.std.specs.List.{AllByRecursion}
use Rattle.hpb_codec.specs.declared.layout.JournalShape.{JournalShape}
use Rattle.hpb_disk.specs.Asked.{Asked}
use Rattle.hpb_slots.specs.Writes.{writes_chunk}
use Rattle.hpb_slots.specs.declared.slot.Slot.TheVariants.{First}
use Rattle.hpb_format.specs.Asking.{AreClosings, IsClosing, writes_chunks}

all_append : (journal : JournalShape) (one two : List Asked) → AllByRecursion (IsClosing journal) one → AllByRecursion (IsClosing journal) two → AllByRecursion (IsClosing journal) (one ++ two)
all_append journal [] two first second = second
all_append journal (call ∷ one) two first second = (first.0, all_append journal one two first.1 second)

-- Closing writes followed by closing writes.
pub more_closings : (journal : JournalShape) (few more most : ℕ) (one two : List Asked) → few + more ≤ most → AreClosings journal few one → AreClosings journal more two → AreClosings journal most (two ++ one)
more_closings journal few more most one two fits first second = record {
  each = all_append journal two one second.each first.each;
  few = omega (arith, fits, first.few, second.few, length-append two one);
}

-- No closing write, and one.
pub no_closings : (journal : JournalShape) (most : ℕ) → AreClosings journal most []
no_closings journal most = record { each = tt; few = omega arith }

pub one_closing : (journal : JournalShape) (call : Asked) → IsClosing journal call → AreClosings journal 1 (call ∷ [])
one_closing journal call is = record { each = (is, tt); few = omega arith }

-- The chunks up to one of them are the first ones of all.
pub first_chunks : (more count : ℕ) (body : List ℕ) → (later : List Asked) × (writes_chunks (more + count) body ≡ later ++ writes_chunks count body)
first_chunks zero count body = let same : 0 + count ≡ count = omega arith in ([], ap (λ (n : ℕ). writes_chunks n body) same)
first_chunks (suc more) count body =
    let rest = first_chunks more count body in
    let next : suc more + count ≡ suc (more + count) = omega arith in
    let chunk = writes_chunk First (more + count) body in
    (chunk ∷ rest.0, ap (λ (n : ℕ). writes_chunks n body) next ∙ ap (λ (l : List Asked). chunk ∷ l) rest.1)

pub widen : (journal : JournalShape) (few most : ℕ) (calls : List Asked) → few ≤ most → AreClosings journal few calls → AreClosings journal most calls
widen journal few most calls le are = record { each = are.each; few = omega (arith, le, are.few) }

-- All chunks end with those up to one of them.
pub chunks_end : (i count : ℕ) (body : List ℕ) → i < count → (later : List Asked) × (writes_chunks count body ≡ later ++ writes_chunks (suc i) body)
chunks_end i count body below =
    let split : (count - suc i) + suc i ≡ count = omega (arith, below) in
    let rest = first_chunks (count - suc i) (suc i) body in (rest.0, ap (λ (n : ℕ). writes_chunks n body) (sym split) ∙ rest.1)
