-- Pieces written over one another.
use Rattle.std.proofs.Common.{◌≡◌, ℕ, ◌+◌, ◌≤◌, List, ◌++◌, length, take, drop, sym, ap, subst, ◌∙◌, arith, append_assoc, take-append-drop, length-drop}
use Rattle.std.proofs.Math.Seq.{take-append-add}
use Rattle.std.proofs.lemmas.List.{length-take-le, take-take, take_all}

-- the first bytes of those written up to a place and of a text behind it
front_behind : (at size : ℕ) (old text : List ℕ) → at ≤ length old → take (at + size) (take at old ++ text) ≡ take at old ++ take size text
front_behind at size old text within = subst (λ (n : ℕ). take (n + size) (take at old ++ text) ≡ take at old ++ take size text) (length-take-le at old within) (take-append-add (take at old) text size)

-- a text is written once its front and its back are, which may overlap
pub ends_written : (at size back first last : ℕ) (old middle new text : List ℕ) → at ≤ length old → back ≤ size → back + size ≡ length text
    → first ≡ at + size → last ≡ at + back + size
    → take first middle ≡ take at old ++ take size text
    → take last new ≡ take (at + back) middle ++ take size (drop back text)
    → take last new ≡ take at old ++ text
ends_written at size back first last old middle new text within less whole to_first to_last front behind =
    let kept : take (at + back) middle ≡ take at old ++ take back text =
    sym (take-take (at + back) first middle (omega arith)) ∙ ap (take (at + back)) front
    ∙ front_behind at back old (take size text) within ∙ ap (λ xs. take at old ++ xs) (take-take back size text less) in
    let rest : take size (drop back text) ≡ drop back text = take_all size (drop back text) (omega (arith, length-drop back text)) in
    rw (behind, kept, rest, append_assoc, take-append-drop back text)
