-- The rule of the trail, and the facts that its one step gives.
use Rattle.std.specs.Prelude.{ℕ, ◌≡◌, ◌==◌, true, List, [], ◌∷◌, ◌++◌, length, MatchBool}
use mathlib.Core.List.{IsPrefix}
use Rattle.hpb_rules.specs.declared.letter.Letter.{Letter}
use Rattle.logbook.specs.Pages.{Cell, Step, View, Book, Named}

-- The first word is the number of batches; the second isn't used.
abbrev pub IsKept : List Cell → List (List Letter) → Type 0
IsKept cells log = cells ≡ (length log, true) ∷ (0, true) ∷ []

-- The word that counts the batches of a book.
abbrev pub head_of : Book → Named
head_of b = record { tracked = true; key = 0; book = b }

-- The batch was added to a list that had been seen as a whole; or the list was longer, and now is seen.
abbrev pub Adds : Step (List Letter) → View (List Letter) ℕ → ℕ → View (List Letter) ℕ → Type 0
Adds s v found w = MatchBool (found == s.old) (w.0 ≡ v.0 ++ s.ask ∷ []) (IsPrefix v.0 w.0)
