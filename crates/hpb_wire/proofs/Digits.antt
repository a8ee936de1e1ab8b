-- Digits read from the left.
use Rattle.std.proofs.Common.{◌≡◌, ℕ, ◌+◌, ◌*◌, ◌^◌, ◌<◌, ◌≤◌, Bool, true, false, cond, eqb, ltb, ◌&&◌, List, [], ◌∷◌, ◌++◌, length, Option, Some, None, refl, sym, ap, arith, length-append}
use Rattle.std.proofs.Math.Nat.{pow-suc, pow-le-pow_right, mul-le-mul_right}
use Rattle.std.proofs.Math.Dec.{lit<}
use Rattle.std.specs.Option.{option_and_then}
use Rattle.std.specs.Prelude.{IfSome}
use Rattle.std.specs.Char.{is_ascii_digit, digit_value}
use Rattle.std.specs.Str.{all_ascii_digits}
use Rattle.std.specs.Str.Parse.{digits_value, digits_value_after}
use Rattle.std.proofs.lemmas.Bool.{lt-ltb, and_parts}
use Rattle.std.proofs.lemmas.Bool.Decides.{nat_tests}
use Rattle.std.proofs.lemmas.Int.Digits.{digits_value_push}
use Rattle.hpb_wire.specs.Numbers.{has_front_zero, number_of_digits, digit_number, digits_number}

-- one digit more, at the end
all_digits-push : (front : List ℕ) (last : ℕ) → all_ascii_digits (front ++ last ∷ []) ≡ (all_ascii_digits front && is_ascii_digit last)
all_digits-push [] last = elim (is_ascii_digit last) as (λ b. (b && true) ≡ b) [ true ↦ refl | false ↦ refl ]
all_digits-push (byte ∷ front) last = elim (is_ascii_digit byte) as (λ b. (b && all_ascii_digits (front ++ last ∷ [])) ≡ ((b && all_ascii_digits front) && is_ascii_digit last)) [
  | true ↦ all_digits-push front last
  | false ↦ refl
]

-- tens and ones joined, if both are there and 64 bits hold the result
abbrev joined : Option ℕ → Option ℕ → Option ℕ
joined tens ones = option_and_then (λ tens. option_and_then (λ ones. cond (ltb (tens * 10 + ones) (2 ^ 64)) (Some (tens * 10 + ones)) None) ones) tens

when_both : (front last : Bool) (tens ones : ℕ) → cond ((front && last) && true && ltb (tens * 10 + ones) (2 ^ 64)) (Some (tens * 10 + ones)) None ≡ joined (cond front (Some tens) None) (cond last (Some ones) None)
when_both true true tens ones = refl
when_both true false tens ones = refl
when_both false last tens ones = refl

pub pushed : (front : List ℕ) (last : ℕ) → number_of_digits (front ++ last ∷ []) ≡ joined (digits_number front) (digit_number last)
pushed front last =
    let filled : ltb 0 (length (front ++ last ∷ [])) ≡ true = lt-ltb _ _ (omega (arith, length-append front (last ∷ []))) in
    rw (all_digits-push front last, filled, digits_value_push 10 front last) (when_both (all_ascii_digits front) (is_ascii_digit last) (digits_value 10 front) (digit_value last))

-- fewer than 20 digits spell a number of 64 bits
pub few : (word : List ℕ) → 0 < length word → length word < 20 → IfSome (digits_number word) (λ n. n < 10 ^ length word) → digits_number word ≡ number_of_digits word
few word filled short =
    let value = digits_value 10 word in
    let room : 10 ^ length word ≤ 10 ^ 19 = pow-le-pow_right (lit< tt) {i = length word} {j = 19} (omega arith) in
    let some : ltb 0 (length word) ≡ true = lt-ltb 0 (length word) filled in
    elim (all_ascii_digits word) as (λ b. IfSome (cond b (Some value) None) (λ n. n < 10 ^ length word) → cond b (Some value) None ≡ cond (b && ltb 0 (length word) && ltb value (2 ^ 64)) (Some value) None) [
      | true ↦ λ below. let fits : ltb value (2 ^ 64) ≡ true = lt-ltb value (2 ^ 64) (omega (arith, below, room)) in rw (some, fits) refl
      | false ↦ λ below. refl
    ]

-- fewer than 19 digits spell a number below 10^18
pub room : (count : ℕ) → count < 19 → 10 ^ count ≤ 10 ^ 18
room count few = pow-le-pow_right (lit< tt) {i = count} {j = 18} (omega arith)

-- each digit behind a number multiplies it by at least ten
after_at_least : (number : ℕ) (digits : List ℕ) → number * 10 ^ length digits ≤ digits_value_after 10 number digits
after_at_least number [] = omega arith
after_at_least number (byte ∷ digits) =
    omega (arith, after_at_least (number * 10 + digit_value byte) digits, ap (λ x. number * x) (pow-suc 10 (length digits)))

-- a digit other than zero is worth at least one
worth : (byte : ℕ) → is_ascii_digit byte ≡ true → eqb byte 48 ≡ false → 1 ≤ digit_value byte
worth byte h other = grind (arith, nat_tests)

-- more than 20 digits without a zero in front spell more than 64 bits hold
pub beyond : (word : List ℕ) → all_ascii_digits word ≡ true → has_front_zero word ≡ false → 20 < length word → 2 ^ 64 ≤ digits_value 10 word
beyond [] h plain long = absurd (omega arith)
beyond (byte ∷ digits) h plain long =
    let more : ltb 1 (length (byte ∷ digits)) ≡ true = lt-ltb _ _ (omega arith) in
    let other : eqb byte 48 ≡ false = rw more at plain in
    let first : 1 ≤ digit_value byte = worth byte (and_parts (is_ascii_digit byte) (all_ascii_digits digits) h).0 other in
    let power : 10 ^ 20 ≤ 10 ^ length digits = pow-le-pow_right (lit< tt) {i = 20} {j = length digits} (omega arith) in
    omega (arith, mul-le-mul_right (10 ^ length digits) first, after_at_least (0 * 10 + digit_value byte) digits)

-- a digit is worth at most nine
worth_most : (byte : ℕ) → is_ascii_digit byte ≡ true → digit_value byte ≤ 9
worth_most byte h = grind (arith, nat_tests)

-- digits behind a number keep it below the next number with as many zeros
after_below : (number : ℕ) (digits : List ℕ) → all_ascii_digits digits ≡ true → digits_value_after 10 number digits < (number + 1) * 10 ^ length digits
after_below number [] h = omega arith
after_below number (byte ∷ digits) h =
    let parts = and_parts (is_ascii_digit byte) (all_ascii_digits digits) h in
    let most : number * 10 + digit_value byte + 1 ≤ (number + 1) * 10 = omega (arith, worth_most byte parts.0) in
    omega (arith, after_below (number * 10 + digit_value byte) digits parts.1, mul-le-mul_right (10 ^ length digits) most, ap (λ x. (number + 1) * x) (pow-suc 10 (length digits)))

-- a word of fewer than 20 bytes, all of them digits, is a number of 64 bits
pub read_whole : (word : List ℕ) (number : ℕ) → 0 < length word → length word < 20 → all_ascii_digits word ≡ true → number ≡ digits_value 10 word → number_of_digits word ≡ Some number
read_whole word number filled short all value =
    let below : digits_value 10 word < (0 + 1) * 10 ^ length word = after_below 0 word all in
    let power : 10 ^ length word ≤ 10 ^ 19 = pow-le-pow_right (lit< tt) {i = length word} {j = 19} (omega arith) in
    let some : ltb 0 (length word) ≡ true = lt-ltb 0 (length word) filled in
    let small : ltb (digits_value 10 word) (2 ^ 64) ≡ true = lt-ltb (digits_value 10 word) (2 ^ 64) (omega (arith, below, power)) in
    rw (all, some, small) (ap Some (sym value))
