-- The words of a line that are numbers: each number has one word, its decimal.
use Rattle.std.proofs.Common.{◌≡◌, ℕ, zero, suc, ◌^◌, ◌<◌, ◌≤◌, Bool, true, false, not, ◌&&◌, eqb, ltb, leb, List, get_or, ⊎_elim, Some, None, length, refl, sym, ap, ◌∙◌, arith}
use Rattle.std.specs.Prelude.{if◌then◌else◌, decimal}
use Rattle.std.specs.Str.{all_ascii_digits}
use Rattle.std.specs.Str.Parse.{digits_value}
use Rattle.std.proofs.lemmas.Bool.{both_ways, and_parts, leb-true, le-leb, ltb-true, lt-ltb, eq-eqb, ne_eqb, cases_lt}
use Rattle.std.proofs.lemmas.Bool.Decides.{nat_tests}
use Rattle.std.proofs.lemmas.Grind.{get_or_default_zero}
use Rattle.std.proofs.lemmas.List.Folds.{list_any_none}
use Rattle.std.proofs.lemmas.Str.Parse.{IsNumeralModel, numerals_by_value, tells_all_ascii_digits, digit_at}
use Rattle.std.proofs.lemmas.Fmt.{decimal-digits_value, digits_decimal, digits_value-decimal, decimal_nonempty, first_decimal, decimal_digit}
use Rattle.hpb_rules.specs.Lines.{space, line_feed, is_space, is_line_feed, is_number, number_up_to}
use Rattle.hpb_rules.specs.TextLaws.{NumberIsOne}
use Rattle.hpb_rules.proofs.LineWords.{IsClean}

-- a zero stands alone
no_zero : (len first : ℕ) → 0 < len → first ≡ 48 → not (ltb 1 len && eqb first 48) ≡ true → len ≡ 1
no_zero len first h e f = ⊎_elim
    (λ more. absurd (both_ways _ (ap not (ap (λ b. b && eqb first 48) (lt-ltb 1 len more) ∙ eq-eqb first 48 e)) f))
    (λ one. omega arith)
    (cases_lt 1 len)

own : IsNumeralModel (λ digits. all_ascii_digits digits ≡ true) (digits_value 10)
own = numerals_by_value (λ digits. all_ascii_digits digits ≡ true) tells_all_ascii_digits

-- a word that is a number is the decimal of its value, which is at most the greatest
pub number_is : (most : ℕ) (word : List ℕ) (number : ℕ) → most < 2 ^ 64 → number_up_to most word ≡ Some number → (word ≡ decimal number) × (number ≤ most)
number_is most word number small e = by (is_number word && leb (digits_value 10 word) most) refl e
  where
    by : (b : Bool) → (is_number word && leb (digits_value 10 word) most) ≡ b → (if b then Some (digits_value 10 word) else None) ≡ Some number → (word ≡ decimal number) × (number ≤ most)
    by true p f =
        let worth : digits_value 10 word ≡ number = cc in
        let both : (is_number word ≡ true) × (leb (digits_value 10 word) most ≡ true) = and_parts _ _ p in
        let rest : ((all_ascii_digits word && ltb 0 (length word)) ≡ true) × (not (ltb 1 (length word) && eqb (get_or word 0 0) 48) ≡ true) = and_parts _ _ both.0 in
        let digits : (all_ascii_digits word ≡ true) × (ltb 0 (length word) ≡ true) = and_parts _ _ rest.0 in
        let most_of : digits_value 10 word ≤ most = leb-true _ _ both.1 in
        let filled : 0 < length word = ltb-true _ _ digits.1 in (
          sym (ap decimal (sym worth) ∙ decimal-digits_value own word digits.0 filled (λ lead. no_zero (length word) (get_or word 0 0) filled lead rest.1) (omega arith)),
          omega (arith, most_of, worth),
        )
    by false p f = absurd (cc)

-- ---- the decimal of a number
zero_alone : (number : ℕ) → number < 2 ^ 64 → (ltb 1 (length (decimal number)) && eqb (get_or (decimal number) 0 0) 48) ≡ false
zero_alone zero small = rw (decimal_digit 0 (omega arith)) refl
zero_alone (suc number) small =
    let first = first_decimal (suc number) (omega arith) small in
    grind (arith, nat_tests)

-- the decimal of a number within the greatest is read as that number
pub number_read : (most number : ℕ) → most < 2 ^ 64 → number ≤ most → number_up_to most (decimal number) ≡ Some number
number_read most number small within =
    let value = digits_value-decimal own number (omega arith) in
    let filled : ltb 0 (length (decimal number)) ≡ true = lt-ltb _ _ (decimal_nonempty number (omega arith)) in
    rw (digits_decimal own number (omega arith), filled, zero_alone number (omega arith), value, le-leb number most within) refl

pub number_is_one : NumberIsOne
number_is_one most number word small = (
  λ e. let is : (word ≡ decimal number) × (number ≤ most) = number_is most word number small e in (is.1, is.0),
  λ h. ap (number_up_to most) h.1 ∙ number_read most number small h.0,
)

digit_in : (digits : List ℕ) (k d : ℕ) → all_ascii_digits digits ≡ true → k < length digits → 48 ≤ get_or digits k d
digit_in digits k d h l = omega (arith, (digit_at digits k (own.to digits h) l).0, get_or_default_zero digits k d l)

digits_clean : (digits : List ℕ) → all_ascii_digits digits ≡ true → IsClean digits
digits_clean digits h = record {
  no_space = list_any_none is_space digits (λ k d l. ne_eqb (get_or digits k d) space (λ e. absurd (omega (arith, digit_in digits k d h l))));
  no_line_feed = list_any_none is_line_feed digits (λ k d l. ne_eqb (get_or digits k d) line_feed (λ e. absurd (omega (arith, digit_in digits k d h l))));
}

-- it has no space and no line feed
pub number_clean : (number : ℕ) → number < 2 ^ 64 → IsClean (decimal number)
number_clean number small = digits_clean (decimal number) (digits_decimal own number small)
