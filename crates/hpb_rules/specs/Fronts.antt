-- Fronts of lists, and lists joined one after another.
use Rattle.std.specs.Prelude.{◌≡◌, List, [], ◌∷◌, ◌++◌}

-- A list is a front of another if the other continues it.
abbrev pub IsFront : {A : Type 0} → List A → List A → Type 0
IsFront {A = A} front whole = (rest : List A) × (whole ≡ front ++ rest)

-- The items of lists, one list after another: for example the letters of all batches, in order.
abbrev pub joined : {A : Type 0} → List (List A) → List A
joined [] = []
joined (list ∷ lists) = list ++ joined lists
