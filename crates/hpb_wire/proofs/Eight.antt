-- Digits in the bytes of one number.
use Rattle.std.proofs.Common.{◌≡◌, ℕ, ◌+◌, ◌-◌, ◌*◌, ◌%◌, ◌^◌, ◌<◌, ◌≤◌, Bool, true, false, cond, not, eqb, ltb, leb, ◌&&◌, ◌||◌, zero, suc, List, [], ◌∷◌, ◌++◌, map, length, take, get_or, replicate, nat_le, nat_lt, nat_eq, ◌⊎◌, inl, inr, refl, sym, ap, ◌∙◌, arith, bit_and, bit_or, eqb→eq, length-append}
use Rattle.std.proofs.Math.Nat.{pow-suc, zero-mod, mul-div_cancel, mul-mod_left, add-zero}
use Rattle.std.proofs.lemmas.Bool.{and_parts, and_right, or_parts, ne_eqb, leb-false, lt-ltb, eqb-true}
use Rattle.std.proofs.lemmas.Int.Digits.{digits_value_is}
use Rattle.std.proofs.lemmas.List.{take-map, length-take, length-map, length-replicate}
use Rattle.std.proofs.lemmas.List.Folds.{list_any-append}
use Rattle.std.proofs.lemmas.Nat.{pow-add, xor_lt}
use Rattle.std.specs.List.{list_any}
use Rattle.std.specs.Char.{is_ascii_digit, digit_value}
use Rattle.std.specs.Str.{all_ascii_digits}
use Rattle.std.specs.Str.Parse.{digits_value}
use Rattle.std.specs.Int.Digits.{number_from_digits, AllBelowBase}
use Rattle.std.specs.Slice.Scan.{digits_from, flag_word}
use Rattle.core.specs.Dec2flt.Digits.{less_zero, IsEightBytes, IsEightDigits}
use Rattle.core.proofs.slice.Flagged.{flags_from_ten}
use Rattle.core.proofs.dec2flt.DigitsLemmas.{every_below, beq_is}
use Rattle.core.proofs.dec2flt.LimbsLemmas.{power_pos}
use mathlib.Core.Bool.{beq}
use mathlib.Core.List.{map-id}
use lib.Arith.{digits_div, digits_mod, mod-mul}
use lib.Lanes.{number_l}
use Rattle.hpb_wire.specs.Numbers.{has_front_zero}

-- ---- moved up

-- zeros before bytes
zeros_first : (k : ℕ) (bytes : List ℕ) → number_l 256 (replicate k 0 ++ bytes) ≡ number_l 256 bytes * 256 ^ k
zeros_first zero bytes = omega arith
zeros_first (suc k) bytes = omega (arith, zeros_first k bytes, ap (λ x. number_l 256 bytes * x) (pow-suc 256 k))

-- the lowest bytes alone
lowest : (bytes : List ℕ) (count : ℕ) → AllBelowBase 256 bytes → number_l 256 bytes % 256 ^ count ≡ number_l 256 (take count bytes)
lowest bytes zero h = omega arith
lowest [] (suc count) h = zero-mod _
lowest (byte ∷ bytes) (suc count) h =
    let e : byte + 256 * number_l 256 bytes ≡ number_l 256 bytes * 256 + byte = omega arith in
    let some : 0 < 256 = omega arith in
    rw (pow-suc, e, mod-mul _ (power_pos 256 count some) some, digits_div _ h.0, digits_mod _ h.0, lowest bytes count h.1) (omega arith)

scaled : (a m c : ℕ) → 0 < m → 0 < c → a * c % (m * c) ≡ a % m * c
scaled a m c M C = rw (mod-mul _ M C, mul-div_cancel a C, mul-mod_left, add-zero)

-- a bound in bits is the same bound in bytes
byte_bits : (k : ℕ) → k ≤ 8 → 2 ^ (8 * k) ≡ 256 ^ k
byte_bits k h = eqb→eq _ _ (every_below (λ j. eqb (2 ^ (8 * j)) (256 ^ j)) 9 tt k (omega arith))

-- the first bytes, moved up to the end
pub moved_up : (bytes : List ℕ) (word count : ℕ) → IsEightBytes bytes → word ≡ number_l 256 bytes → count ≤ 8
    → word * 2 ^ (8 * (8 - count)) % 2 ^ 64 ≡ number_l 256 (replicate (8 - count) 0 ++ take count bytes)
moved_up bytes word count eight is few =
    let all : 256 ^ count * 256 ^ (8 - count) ≡ 2 ^ 64 = sym (pow-add 256 count (8 - count)) ∙ ap (λ k. 256 ^ k) {y = 8} (omega arith) in
    rw (byte_bits (8 - count) (omega arith), is, ← all, scaled _ _ _ (power_pos 256 count (omega arith)) (power_pos 256 (8 - count) (omega arith)), lowest bytes count eight.1) (sym (zeros_first (8 - count) (take count bytes)))

-- ---- other bytes than digits

-- the numbers of bytes, one by one
spelt : (g f : ℕ → ℕ) (k : ℕ) (bytes : List ℕ) → ((j : ℕ) → f (k + j) ≡ g (get_or bytes j 0)) → digits_from f k (length bytes) ≡ number_l 256 (map g bytes)
spelt g f k [] h = refl
spelt g f k (byte ∷ bytes) h =
    let here : f k ≡ g byte = ap f (sym (add-zero k)) ∙ h 0 in
    let rest = spelt g f (suc k) bytes (λ j. ap f {y = k + suc j} (omega arith) ∙ h (suc j)) in
    λ i. here i + 256 * rest i

eqb_scaled : (n : ℕ) → eqb (0 + 256 * n) 0 ≡ eqb n 0
eqb_scaled zero = refl
eqb_scaled (suc n) = ne_eqb _ 0 (omega arith) ∙ sym (ne_eqb (suc n) 0 (omega arith))

byte_at : (bytes : List ℕ) → AllBelowBase 256 bytes → (k : ℕ) → get_or bytes k 0 < 256
byte_at [] h k = omega arith
byte_at (byte ∷ bytes) h zero = h.0
byte_at (byte ∷ bytes) h (suc k) = byte_at bytes h.1 k

-- the high bit if a byte is ten or more, else 0
abbrev flag : ℕ → ℕ
flag byte = cond (leb 10 byte) 128 0

one_more : (ten : Bool) (n : ℕ) (rest : Bool) → not (eqb n 0) ≡ rest → not (eqb (cond ten 128 0 + 256 * n) 0) ≡ (ten || rest)
one_more true n rest h = ap not (ne_eqb _ 0 (omega arith))
one_more false n rest h = ap not (eqb_scaled n) ∙ h

-- a flag is set if and only if some byte is ten or more
any_flag : (bytes : List ℕ) → not (eqb (number_l 256 (map flag bytes)) 0) ≡ list_any (nat_le 10) bytes
any_flag [] = refl
any_flag (byte ∷ bytes) = one_more (leb 10 byte) (number_l 256 (map flag bytes)) (list_any (nat_le 10) bytes) (any_flag bytes)

-- the test of a word says whether some byte isn't a digit
pub others : (bytes : List ℕ) (word : ℕ) → IsEightBytes bytes → word ≡ number_l 256 bytes
    → not (nat_eq (bit_and (bit_or (bit_and word 0x7f7f_7f7f_7f7f_7f7f + 0x7676_7676_7676_7676) word) 0x8080_8080_8080_8080) 0) ≡ list_any (nat_le 10) bytes
others bytes word eight is =
    let at = λ (k : ℕ). get_or bytes k 0 in
    let whole = λ (g : ℕ → ℕ). spelt g (λ k. g (at k)) 0 bytes (λ j. ap (λ k. g (at k)) {y = j} (omega arith)) in
    let spelling : word ≡ digits_from at 0 8 = is ∙ ap (number_l 256) (sym (map-id bytes)) ∙ sym (whole (λ x. x)) ∙ ap (digits_from at 0) eight.0 in
    let flags = flags_from_ten word at (byte_at bytes eight.1) spelling in
    let same : flag_word (λ k. leb 10 (at k)) ≡ number_l 256 (map flag bytes) = ap (digits_from (λ k. flag (at k)) 0) (sym eight.0) ∙ whole flag in
    ap (λ n. not (nat_eq n 0)) (flags ∙ same) ∙ any_flag bytes

-- ---- digits alone

-- the values that stand for bytes
lanes_fit : (bytes : List ℕ) → AllBelowBase 256 bytes → AllBelowBase 256 (map less_zero bytes)
lanes_fit [] h = tt
lanes_fit (byte ∷ bytes) h = (xor_lt 8 byte 48 h.0 (omega arith), lanes_fit bytes h.1)

pub eight_lanes : (bytes : List ℕ) → IsEightBytes bytes → IsEightBytes (map less_zero bytes)
eight_lanes bytes eight = (length-map bytes less_zero ∙ eight.0, lanes_fit bytes eight.1)

first_fit : (b : ℕ) (bytes : List ℕ) (count : ℕ) → AllBelowBase b bytes → AllBelowBase b (take count bytes)
first_fit b bytes zero h = tt
first_fit b [] (suc count) h = tt
first_fit b (byte ∷ bytes) (suc count) h = (h.0, first_fit b bytes count h.1)

zeros_fit : (b k : ℕ) (bytes : List ℕ) → 0 < b → AllBelowBase b bytes → AllBelowBase b (replicate k 0 ++ bytes)
zeros_fit b zero bytes some h = h
zeros_fit b (suc k) bytes some h = (some, zeros_fit b k bytes some h)

filled : (bytes : List ℕ) (count : ℕ) → length bytes ≡ 8 → count ≤ 8 → length (replicate (8 - count) 0 ++ take count bytes) ≡ 8
filled bytes count eight few = omega (arith, length-append (replicate {A = ℕ} (8 - count) 0) (take count bytes), length-replicate {A = ℕ} (8 - count) 0, length-take count bytes)

-- some of eight bytes, with zeros before them
pub with_zeros : (bytes : List ℕ) (count : ℕ) → IsEightBytes bytes → count ≤ 8 → IsEightBytes (replicate (8 - count) 0 ++ take count bytes)
with_zeros bytes count eight few = (filled bytes count eight.0 few, zeros_fit 256 (8 - count) (take count bytes) (omega arith) (first_fit 256 bytes count eight.1))

none_other : (bytes : List ℕ) → list_any (nat_le 10) bytes ≡ false → AllBelowBase 10 bytes
none_other [] h = tt
none_other (byte ∷ bytes) h = let parts = or_parts (leb 10 byte) (list_any (nat_le 10) bytes) h in (leb-false _ _ parts.0, none_other bytes parts.1)

-- a byte whose value is below ten is a digit with that value
abbrev is_digit_lane : ℕ → Bool
is_digit_lane byte = is_ascii_digit byte && eqb (less_zero byte) (digit_value byte)

digit_lane : (byte : ℕ) → byte < 256 → less_zero byte < 10 → is_digit_lane byte ≡ true
digit_lane byte fits small =
    let tried : cond (ltb (less_zero byte) 10) (is_digit_lane byte) true ≡ true = beq_is _ _ (every_below (λ b. beq (cond (ltb (less_zero b) 10) (is_digit_lane b) true) true) 256 tt byte fits) in
    rw (lt-ltb _ _ small) at tried

digit_lanes : (bytes : List ℕ) → AllBelowBase 256 bytes → AllBelowBase 10 (map less_zero bytes) → (all_ascii_digits bytes ≡ true) × (map less_zero bytes ≡ map digit_value bytes)
digit_lanes [] fit small = (refl, refl)
digit_lanes (byte ∷ bytes) fit small =
    let rest = digit_lanes bytes fit.1 small.1 in
    let parts = and_parts (is_ascii_digit byte) (eqb (less_zero byte) (digit_value byte)) (digit_lane byte fit.0 small.0) in
    (rw (parts.0, rest.0) refl, λ i. eqb-true _ _ parts.1 i ∷ rest.1 i)

zeros_worth : (k : ℕ) (digits : List ℕ) → number_from_digits 10 (replicate k 0 ++ digits) ≡ number_from_digits 10 digits
zeros_worth zero digits = refl
zeros_worth (suc k) digits = zeros_worth k digits

-- if no byte is another, the first ones are digits, and spell the same number with zeros in front
pub digits_first : (bytes : List ℕ) (count : ℕ) → IsEightBytes bytes → count ≤ 8 → list_any (nat_le 10) (replicate (8 - count) 0 ++ take count (map less_zero bytes)) ≡ false
    → (all_ascii_digits (take count bytes) ≡ true) × IsEightDigits (replicate (8 - count) 0 ++ take count (map less_zero bytes))
    × (number_from_digits 10 (replicate (8 - count) 0 ++ take count (map less_zero bytes)) ≡ digits_value 10 (take count bytes))
digits_first bytes count eight few none =
    let lanes = map less_zero bytes in
    let parts = or_parts _ _ (sym (list_any-append (nat_le 10) (replicate (8 - count) 0) (take count lanes)) ∙ none) in
    let same : take count lanes ≡ map less_zero (take count bytes) = take-map less_zero count bytes in
    let digits = digit_lanes (take count bytes) (first_fit 256 bytes count eight.1) (rw same at (none_other (take count lanes) parts.1)) in (
      digits.0,
      (filled lanes count (eight_lanes bytes eight).0 few, none_other _ none),
      zeros_worth (8 - count) (take count lanes) ∙ ap (number_from_digits 10) (same ∙ digits.1) ∙ sym (digits_value_is 10 (take count bytes)),
    )

-- no zero stands before another digit
pub plain_front : (bytes : List ℕ) (count lanes : ℕ) → AllBelowBase 256 bytes → lanes ≡ number_l 256 (map less_zero bytes) → ((lanes % 256 ≡ 0) × (count ≤ 1)) ⊎ (lanes % 256 ≡ 0 → ⊥)
    → has_front_zero (take count bytes) ≡ false
plain_front bytes zero lanes fit is h = refl
plain_front [] (suc count) lanes fit is h = refl
plain_front (byte ∷ bytes) (suc count) lanes fit is (inl h) = let one : count ≡ 0 = omega (arith, h.1) in rw one refl
plain_front (byte ∷ bytes) (suc count) lanes fit is (inr h) =
    let small : less_zero byte < 256 = xor_lt 8 byte 48 fit.0 (omega arith) in
    let first : lanes % 256 ≡ less_zero byte = omega (arith, is) in
    let other : eqb byte 48 ≡ false = ne_eqb _ _ (λ e. h (first ∙ ap less_zero e)) in
    and_right (nat_lt 1 (suc (length (take count bytes)))) _ other
