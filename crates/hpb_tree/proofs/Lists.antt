-- Tests of lists.
use Rattle.std.proofs.Common.{◌≡◌, Bool, false, ◌||◌, List, [], ◌∷◌, map, refl, sym, ap, ◌∙◌}
use Rattle.std.specs.List.{list_any}

pub mapped : {X Y : Type 0} (f : X → Y) (p : Y → Bool) (xs : List X) → list_any p (map f xs) ≡ list_any (λ x. p (f x)) xs
mapped f p [] = refl
mapped f p (x ∷ xs) = ap (λ b. p (f x) || b) (mapped f p xs)

pub second : (a b : Bool) {r : Bool} → a ≡ false → r ≡ b → r ≡ (a || b)
second a b e h = h ∙ sym (ap (λ x. x || b) e)

pub map_map : {X Y Z : Type 0} (f : X → Y) (g : Y → Z) (xs : List X) → map g (map f xs) ≡ map (λ x. g (f x)) xs
map_map f g [] = refl
map_map f g (x ∷ xs) = ap (λ ys. g (f x) ∷ ys) (map_map f g xs)
