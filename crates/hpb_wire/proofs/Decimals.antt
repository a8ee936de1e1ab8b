-- The digits of a number, written in pairs.
use Rattle.std.proofs.Common.{◌≡◌, ℕ, zero, suc, ◌+◌, ◌-◌, ◌*◌, ◌/◌, ◌%◌, ◌^◌, ◌<◌, ◌≤◌, Bool, true, ◌&&◌, T, List, ◌++◌, eqb, get_or, inl, inr, sym, ap, ◌∙◌, arith, append_assoc, eq-zero-or-pos, eqb→eq}
use Rattle.std.specs.Prelude.{decimal}
use Rattle.itoa.proofs.Decimal.{decimal_pair, decimal_four}
use lib.Ieee.Fits.{and_l, and_r}
use Rattle.hpb_wire.specs.declared.decimal.TheConstants.{PAIRS}
use Rattle.hpb_wire.specs.Decimals.{pair}

abbrev are_pairs : ℕ → Bool
are_pairs zero = true
are_pairs (suc two) = (eqb (get_or PAIRS (two * 2) 0) (48 + two / 10) && eqb (get_or PAIRS (two * 2 + 1) 0) (48 + two % 10)) && are_pairs two

paired : (count two : ℕ) → T (are_pairs count) → two < count → (get_or PAIRS (two * 2) 0 ≡ 48 + two / 10) × (get_or PAIRS (two * 2 + 1) 0 ≡ 48 + two % 10)
paired zero two all h = absurd (omega arith)
paired (suc count) two all h =
    elim (eq-zero-or-pos (count - two)) [
      | inl none ↦
          let same : two ≡ count = omega arith in
          let last = and_l _ (are_pairs count) all in
          rw same (eqb→eq _ _ (and_l _ _ last), eqb→eq _ _ (and_r _ _ last))
      | inr some ↦ paired count two (and_r _ (are_pairs count) all) (omega arith)
    ]

-- the bytes that the table has for a number below 100
pub pair_at : (two : ℕ) → two < 100 → (get_or PAIRS (two * 2) 0 ≡ 48 + two / 10) × (get_or PAIRS (two * 2 + 1) 0 ≡ 48 + two % 10)
pair_at two h = paired 100 two tt h

-- the last two digits are written behind the others
pub two_behind : (front text high low : List ℕ) (number : ℕ) → 100 ≤ number → number < 2 ^ 64 → text ≡ (front ++ high) ++ low → high ≡ decimal (number / 100) → low ≡ pair (number % 100) → text ≡ front ++ decimal number
two_behind front text high low number least most is h l =
    is
    ∙ append_assoc front high low
    ∙ ap (λ xs. front ++ xs) (ap (λ xs. xs ++ low) h ∙ ap (λ xs. decimal (number / 100) ++ xs) l ∙ sym (decimal_pair number least most))

-- so are the last four
pub four_behind : (front text first second : List ℕ) (number : ℕ) → 10000 ≤ number → number < 2 ^ 64 → text ≡ ((front ++ decimal (number / 10000)) ++ first) ++ second
    → first ≡ pair (number % 10000 / 100) → second ≡ pair (number % 10000 % 100) → text ≡ front ++ decimal number
four_behind front text first second number least most is f s =
    is
    ∙ append_assoc (front ++ decimal (number / 10000)) first second
    ∙ append_assoc front (decimal (number / 10000)) (first ++ second)
    ∙ ap (λ xs. front ++ xs)
    (ap (λ xs. decimal (number / 10000) ++ (xs ++ second)) f ∙ ap (λ xs. decimal (number / 10000) ++ (pair (number % 10000 / 100) ++ xs)) s ∙ sym (decimal_four number least most))
