-- The one spelling of a number.
use Rattle.std.proofs.Common.{◌≡◌, ℕ, ◌^◌, ◌<◌, ◌≤◌, Bool, true, false, cond, ltb, leb, not, ◌&&◌, List, length, Some, None, refl, ap, arith}
use Rattle.std.specs.Str.{all_ascii_digits}
use Rattle.std.specs.Str.Parse.{digits_value}
use Rattle.std.proofs.lemmas.Bool.{lt-ltb, le-leb, lt-leb, leb-true}
use Rattle.hpb_rules.specs.Lines.{number_up_to}
use Rattle.hpb_wire.specs.Numbers.{has_front_zero, number_of_digits}
use Rattle.hpb_wire.proofs.Digits.{beyond}

-- some digits
abbrev are_digits : List ℕ → Bool
are_digits word = all_ascii_digits word && ltb 0 (length word)

-- the results of the tests
with_front_zero : (digits within : Bool) (v : ℕ) → cond (digits && false && within) (Some v) None ≡ None
with_front_zero true within v = refl
with_front_zero false within v = refl

not_below : (digits front within below : Bool) (v : ℕ) → cond (digits && below) (Some v) None ≡ None → (within ≡ true → below ≡ true) → cond (digits && not front && within) (Some v) None ≡ None
not_below false front within below v h k = refl
not_below true true within below v h k = refl
not_below true false false below v h k = refl
not_below true false true true v h k = cc
not_below true false true false v h k = absurd (let e : false ≡ true = k refl in cc)

not_within : (digits front : Bool) (v : ℕ) → cond (digits && not front && false) (Some v) None ≡ None
not_within true true v = refl
not_within true false v = refl
not_within false front v = refl

digits_below : (digits below : Bool) (v n : ℕ) → cond (digits && below) (Some v) None ≡ Some n → (digits ≡ true) × (v ≡ n)
digits_below true true v n h = (refl, cc)
digits_below true false v n h = cc
digits_below false below v n h = cc

pub fronted : (most : ℕ) (word : List ℕ) → has_front_zero word ≡ true → number_up_to most word ≡ None
fronted most word h = rw h (with_front_zero (are_digits word) (leb (digits_value 10 word) most) (digits_value 10 word))

-- a word that is no number below 2^64 is none up to a lower bound
pub no_number : (most : ℕ) (word : List ℕ) → number_of_digits word ≡ None → most < 2 ^ 64 → number_up_to most word ≡ None
no_number most word h small = not_below (are_digits word) (has_front_zero word) (leb (digits_value 10 word) most) (ltb (digits_value 10 word) (2 ^ 64)) (digits_value 10 word) h (λ e. lt-ltb _ _ (omega (arith, leb-true _ _ e)))

pub too_large : (most n : ℕ) (word : List ℕ) → number_of_digits word ≡ Some n → most < n → number_up_to most word ≡ None
too_large most n word h large =
    let over : leb (digits_value 10 word) most ≡ false = lt-leb _ _ (omega (arith, (digits_below (are_digits word) _ _ n h).1)) in
    rw over (not_within (are_digits word) (has_front_zero word) (digits_value 10 word))

-- a word of more than 20 digits is no number up to a bound below 2^64
pub too_long : (most : ℕ) (word : List ℕ) → 20 < length word → most < 2 ^ 64 → number_up_to most word ≡ None
too_long most word long small = by (has_front_zero word) (all_ascii_digits word) refl refl
  where
    by : (front digits : Bool) → has_front_zero word ≡ front → all_ascii_digits word ≡ digits → number_up_to most word ≡ None
    by true digits h k = fronted most word h
    by false false h k = rw k refl
    by false true h k =
        let over : leb (digits_value 10 word) most ≡ false = lt-leb _ _ (omega (arith, beyond word k h long)) in
        rw over (not_within (are_digits word) (has_front_zero word) (digits_value 10 word))

pub canonical : (most n : ℕ) (word : List ℕ) → number_of_digits word ≡ Some n → n ≤ most → has_front_zero word ≡ false → number_up_to most word ≡ Some n
canonical most n word h small plain =
    let is = digits_below (are_digits word) _ _ n h in
    let within : leb (digits_value 10 word) most ≡ true = le-leb _ _ (omega (arith, is.1)) in
    rw (is.0, plain, within) (ap Some is.1)
