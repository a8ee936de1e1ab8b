-- A loop over letters: the letters so far, and one more.
use Rattle.std.proofs.Common.{◌≡◌, ℕ, ◌+◌, ◌<◌, List, [], ◌∷◌, ◌++◌, get_or, take, drop, length, sym, ap, ◌∙◌, arith, append_assoc}
use Rattle.std.proofs.lemmas.List.{take_more, take-append-drop}
use Rattle.hpb_rules.specs.declared.letter.Letter.{Letter}

module _ (items letters : List Letter) (same : items ≡ letters) (at : ℕ) where
  module _ (letter : Letter) (inside : at < length items) (is : letter ≡ get_or items at letter) where
    pub front_more : take (at + 1) letters ≡ take at letters ++ letter ∷ []
    front_more =
        take_more letters at letter (omega (arith, inside, ap length same))
        ∙ ap (λ (l : Letter). take at letters ++ l ∷ []) (sym (is ∙ ap (λ (ls : List Letter). get_or ls at letter) same))

    pub front_split : take at letters ++ letter ∷ drop (at + 1) letters ≡ letters
    front_split =
        sym (append_assoc (take at letters) (letter ∷ []) (drop (at + 1) letters))
        ∙ ap (λ (front : List Letter). front ++ drop (at + 1) letters) (sym front_more)
        ∙ take-append-drop (at + 1) letters
