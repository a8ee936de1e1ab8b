-- Digits as they are written.
use Rattle.std.specs.Prelude.{ℕ, ◌+◌, ◌/◌, ◌%◌, List, [], ◌∷◌}

-- The two digits of a number below 100.
abbrev pub pair : ℕ → List ℕ
pair number = (48 + number / 10) ∷ (48 + number % 10) ∷ []
