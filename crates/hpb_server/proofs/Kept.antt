-- The kept bytes of a line.
use Rattle.std.proofs.Common.{◌≡◌, ℕ, ◌+◌, ◌-◌, ◌≤◌, ◌==◌, true, List, [], ◌∷◌, ◌++◌, refl, length, take, sym, ap, ◌∙◌, arith}
use Rattle.std.proofs.lemmas.Bool.{eqb-true}
use Rattle.std.proofs.lemmas.List.{length-take-le}
use Rattle.std.proofs.lemmas.Slice.{take-put_mid}
use Rattle.std.proofs.Math.Seq.{take-append-add}
use borrow.Rule.Slice.PartMut.{put_mid}
use Rattle.hpb_server.specs.declared.line.TheConstants.{KEPT_BYTES}

-- the bytes of the buffer after a part was added
pub kept_more : (bytes now part added : List ℕ) (used n k : ℕ) → take used bytes ≡ now → used ≤ KEPT_BYTES → length bytes ≡ KEPT_BYTES
    → added ≡ take (KEPT_BYTES - used) part → n ≡ used + length added → take n (put_mid used k bytes added) ≡ take KEPT_BYTES (now ++ part)
kept_more bytes now part added used n k seen within size is grown =
    let filled : length now ≡ used = sym (ap length seen) ∙ length-take-le used bytes (omega arith) in
    let whole : length now + (KEPT_BYTES - used) ≡ KEPT_BYTES = omega arith in
    take-put_mid used k bytes added n grown (omega arith)
    ∙ ap (λ xs. xs ++ added) seen
    ∙ ap (λ xs. now ++ xs) is
    ∙ sym (take-append-add now part (KEPT_BYTES - used))
    ∙ ap (λ i. take i (now ++ part)) whole

-- a part is added as far as there is room
pub kept_within : (most : ℕ) (old part : List ℕ) → length old ≤ most → take most (old ++ part) ≡ old ++ take (most - length old) part
kept_within most old part within =
    let whole : length old + (most - length old) ≡ most = omega arith in
    ap (λ i. take i (old ++ part)) (sym whole) ∙ take-append-add old part (most - length old)

-- no bytes are kept of an empty line
pub none_kept : (xs : List ℕ) → (length xs == 0) ≡ true → xs ≡ []
none_kept [] h = refl
none_kept (x ∷ xs) h = absurd (omega (arith, eqb-true (length (x ∷ xs)) 0 h))
