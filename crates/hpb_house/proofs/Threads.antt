-- Threads that are started for clients, one a turn.
use Rattle.std.proofs.Common.{◌≡◌, ◌∙◌, List, [], ◌∷◌, ◌++◌, length, map, arith, Some, sym, ap}
use Rattle.std.specs.declared.vec.IntoIter.{IntoIter}
use Rattle.std.specs.Vec.Iter.{into_iter_items, into_iter_steps}
use Rattle.std.proofs.lemmas.List.{append-nil, append_assoc, map-append}

-- the values made so far belong to the elements so far: with one more of the next, they still do
pub next_made : {A B Z : Type 0} (f : A → B) (whole : List B) (made : List A) (more : A) (s t : IntoIter B Z) (x : B)
    → map f made ++ into_iter_items s ≡ whole → into_iter_steps s (Some x) t → f more ≡ x → map f (made ++ more ∷ []) ++ into_iter_items t ≡ whole
next_made f whole made more s t x is steps same =
    ap (λ front. front ++ into_iter_items t) (map-append f made (more ∷ []))
    ∙ append_assoc (map f made) (f more ∷ []) (into_iter_items t)
    ∙ ap (λ one. map f made ++ one ∷ into_iter_items t) same
    ∙ ap (λ items. map f made ++ items) (sym steps.0)
    ∙ is

-- and of all of them after the last turn
pub no_more : {A B : Type 0} (f : A → B) (whole : List B) (made : List A) (rest : List B) → map f made ++ rest ≡ whole → length rest ≡ 0 → map f made ≡ whole
no_more f whole made [] is none = sym (append-nil (map f made)) ∙ is
no_more f whole made (x ∷ rest) is none = absurd (omega arith)
