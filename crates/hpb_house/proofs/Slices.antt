-- Slices whose elements are compared by a test that decides whether they are the same.
use Rattle.std.proofs.Common.{◌≡◌, Bool, List}
use Rattle.std.specs.Bool.{Decides}
use Rattle.std.specs.Cmp.Lexicographic.{pointwise}
use Rattle.std.proofs.lemmas.Slice.Eq.{slice_eq-Decides}

pub slices_same : {A : Type 0} {E : A → A → Bool} (xs ys : List A) (r : Bool) → r ≡ pointwise E xs ys → ((a b : A) → Decides (E a b) (a ≡ b)) → Decides r (xs ≡ ys)
slices_same xs ys r is each = slice_eq-Decides each xs ys r is
