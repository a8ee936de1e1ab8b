-- A number is read from the bytes that spell it.
use Rattle.std.proofs.Common.{◌≡◌, ℕ, zero, suc, ◌+◌, ◌*◌, ◌/◌, ◌%◌, ◌^◌, ◌<◌, ◌≤◌, List, [], ◌∷◌, ◌++◌, length, take, drop, get_or, inl, inr, ◌-◌, length-drop, refl, sym, ap, ◌∙◌, arith}
use Rattle.std.specs.Int.{w16, w32, w64, from_be_bytes, bytes_high_first}
use Rattle.std.proofs.Common.{replicate}
use Rattle.std.proofs.lemmas.List.{take-append-drop, take-take, drop-take, length-take, take_at, drop_at, take_all}
use Rattle.std.proofs.lemmas.Bool.{cases_lt}
use Rattle.std.proofs.lemmas.List.{get_or-take, get_or_past, get_or-replicate, get_or_default, same_lists}
use Rattle.std.specs.Prelude.{EachIndex}
use Rattle.std.proofs.lemmas.Nat.{div-add-mod', mod_below, mul-add-lt, mod-mul-add}
use Rattle.std.proofs.Math.Nat.{add-mul, mul_assoc, one-le-pow, pow-succ', mod-eq_of_lt, zero-div, div-one}
use Rattle.hpb_codec.specs.Sizes.{length-number}
use Rattle.hpb_codec.specs.Numbers.{number, filled, value, value_from, leading, rest, before}

-- a byte
pub value_1 : (bytes : List ℕ) → 1 ≤ length bytes → leading 1 bytes ≡ get_or bytes 0 0
unfolding leading value_from
value_1 [] h = absurd (omega arith)
value_1 (a ∷ bytes) h = omega arith

pub value_2 : (bytes : List ℕ) → 2 ≤ length bytes → leading 2 bytes ≡ from_be_bytes w16 (take 2 bytes)
unfolding leading value_from
value_2 [] h = absurd (omega arith)
value_2 (a ∷ []) h = absurd (omega arith)
value_2 (a ∷ b ∷ bytes) h = omega arith

pub value_4 : (bytes : List ℕ) → 4 ≤ length bytes → leading 4 bytes ≡ from_be_bytes w32 (take 4 bytes)
unfolding leading value_from
value_4 [] h = absurd (omega arith)
value_4 (a ∷ []) h = absurd (omega arith)
value_4 (a ∷ b ∷ []) h = absurd (omega arith)
value_4 (a ∷ b ∷ c ∷ []) h = absurd (omega arith)
value_4 (a ∷ b ∷ c ∷ d ∷ bytes) h = omega arith

pub value_8 : (bytes : List ℕ) → 8 ≤ length bytes → leading 8 bytes ≡ from_be_bytes w64 (take 8 bytes)
unfolding leading value_from
value_8 [] h = absurd (omega arith)
value_8 (a ∷ []) h = absurd (omega arith)
value_8 (a ∷ b ∷ []) h = absurd (omega arith)
value_8 (a ∷ b ∷ c ∷ []) h = absurd (omega arith)
value_8 (a ∷ b ∷ c ∷ d ∷ []) h = absurd (omega arith)
value_8 (a ∷ b ∷ c ∷ d ∷ e ∷ []) h = absurd (omega arith)
value_8 (a ∷ b ∷ c ∷ d ∷ e ∷ f ∷ []) h = absurd (omega arith)
value_8 (a ∷ b ∷ c ∷ d ∷ e ∷ f ∷ g ∷ []) h = absurd (omega arith)
value_8 (a ∷ b ∷ c ∷ d ∷ e ∷ f ∷ g ∷ i ∷ bytes) h = omega arith

joins : (m d p r : ℕ) → (m * 256 + d) * p + r ≡ m * (256 * p) + (d * p + r)
joins m d p r = omega (arith, add-mul (m * 256) d p, mul_assoc m 256 p)

-- the low bytes of a number, one byte at a time
low_part : (n p : ℕ) → 0 < p → n % (256 * p) ≡ (n / p % 256) * p + n % p
low_part n p h =
    let q = n / p in
    let split : q * p + n % p ≡ n = div-add-mod' n p in
    let deep : (q / 256) * 256 + q % 256 ≡ q = div-add-mod' q 256 in
    let small : n % p < p = mod_below n p h in
    let digit : q % 256 < 256 = omega arith in
    let below : (q % 256) * p + n % p < 256 * p = omega (arith, mul-add-lt (q % 256) p (n % p) 256 digit small) in
    let whole : (q / 256) * (256 * p) + ((q % 256) * p + n % p) ≡ n = sym (joins (q / 256) (q % 256) p (n % p)) ∙ ap (λ (x : ℕ). x * p + n % p) deep ∙ split in
    sym (ap (λ (x : ℕ). x % (256 * p)) whole) ∙ mod-mul-add (q / 256) (256 * p) ((q % 256) * p + n % p) below

value_from-number : (k n m : ℕ) → value_from m (number k n) ≡ m * 256 ^ k + n % 256 ^ k
unfolding number value_from
value_from-number zero n m = omega arith
value_from-number (suc k) n m =
    let p = 256 ^ k in
    value_from-number k n (m * 256 + n / p % 256) ∙ joins m (n / p % 256) p (n % p)
    ∙ ap (λ (x : ℕ). m * (256 * p) + x) (sym (low_part n p (one-le-pow k 256 (omega arith))))
    ∙ ap (λ (x : ℕ). m * x + n % x) (sym (pow-succ' 256 k))

-- a number that fits is read from its bytes
pub value-number : (k n : ℕ) → n < 256 ^ k → value (number k n) ≡ n
value-number k n fits = omega (arith, value_from-number k n 0, mod-eq_of_lt fits)

-- reading the number that bytes begin with gives that number and the bytes behind it
pub leading-number : (k n : ℕ) (back : List ℕ) → n < 256 ^ k → leading k (number k n ++ back) ≡ n
unfolding leading
leading-number k n back fits = ap value (take_at (number k n) back k (length-number k n)) ∙ value-number k n fits

pub rest-number : (k n : ℕ) (back : List ℕ) → rest k (number k n ++ back) ≡ back
unfolding rest
rest-number k n back = drop_at (number k n) back k (length-number k n)

pub length-rest : (k : ℕ) (bytes : List ℕ) → length (rest k bytes) ≡ length bytes - k
unfolding rest
length-rest k bytes = length-drop k bytes

-- the fields that bytes begin with
pub ruleset fields = (leading-number, rest-number)

pub number-zero : (k : ℕ) → number k 0 ≡ replicate k 0
unfolding number
number-zero zero = refl
number-zero (suc k) = rw (number-zero k) (ap (λ (x : ℕ). x ∷ replicate k 0) (zero_digit k))
  where
    zero_digit : (k : ℕ) → 0 / 256 ^ k % 256 ≡ 0
    zero_digit k = ap (λ (x : ℕ). x % 256) (zero-div (256 ^ k))

pub get_or-number : (n k d : ℕ) → k < n → get_or (number n 0) k d ≡ 0
get_or-number n k d lt = ap (λ (x : List ℕ). get_or x k d) (number-zero n) ∙ get_or-replicate n k 0 d lt

-- bytes that were written from the start to the end
pub whole : (out old text : List ℕ) (n : ℕ) → before n out ≡ before 0 old ++ text → length out ≡ n → out ≡ text
unfolding before
whole out old text n e len = sym (take_all n out (omega arith)) ∙ e

pub whole_of : (out old text : List ℕ) (n m : ℕ) → before m out ≡ before 0 old ++ text → length out ≡ n → m ≡ n → out ≡ text
whole_of out old text n m e len same = whole out old text n (ap (λ (k : ℕ). before k out) (sym same) ∙ e) len

pub before_none : (bytes : List ℕ) → before 0 bytes ≡ []
unfolding before
before_none bytes = refl

-- bytes that were filled with zeros to the end
pub filled_is : (out old : List ℕ) (at left : ℕ) → before (at + left) out ≡ before at old ++ number left 0 → at + left ≡ length old → length out ≡ length old → out ≡ filled (length old) (before at old)
unfolding filled before
filled_is out old at left e all len =
    let short : length (take at old) ≡ at = omega (arith, length-take at old) in
    let rest : length old - length (take at old) ≡ left = omega (arith, short) in
    sym (take_all (at + left) out (omega arith)) ∙ e ∙ ap (λ (k : ℕ). take at old ++ number k 0) (sym rest)

-- bytes that are zero are the number 0
pub zeros_are : (bytes : List ℕ) → EachIndex bytes (λ k. get_or bytes k 0 ≡ 0) → bytes ≡ number (length bytes) 0
zeros_are bytes each = same_lists bytes (number (length bytes) 0) (sym (length-number (length bytes) 0)) (λ k d lt. get_or_default bytes k d 0 lt ∙ each k lt ∙ sym (get_or-number (length bytes) k d lt))

pub zero_each : (bytes : List ℕ) → bytes ≡ number (length bytes) 0 → EachIndex bytes (λ k. get_or bytes k 0 ≡ 0)
zero_each bytes e k lt = ap (λ (x : List ℕ). get_or x k 0) e ∙ get_or-number (length bytes) k 0 lt

value_from-append : (m : ℕ) (a b : List ℕ) → value_from m (a ++ b) ≡ value_from (value_from m a) b
unfolding value_from
value_from-append m [] b = refl
value_from-append m (x ∷ a) b = value_from-append (m * 256 + x) a b

value_from-start : (m : ℕ) (b : List ℕ) → value_from m b ≡ m * 256 ^ length b + value b
unfolding value_from
value_from-start m [] = omega arith
value_from-start m (x ∷ b) =
    let p = 256 ^ length b in
    let e : 256 ^ suc (length b) ≡ 256 * p = pow-succ' 256 (length b) in
    value_from-start (m * 256 + x) b ∙ joins m x p (value b) ∙ omega (arith, value_from-start (0 * 256 + x) b, ap (λ (y : ℕ). m * y) e)

-- sixteen bytes are two numbers of eight
pub leading_16 : (bytes : List ℕ) → 16 ≤ length bytes → leading 16 bytes ≡ leading 8 bytes * 18446744073709551616 + leading 8 (rest 8 bytes)
unfolding leading rest
leading_16 bytes h =
    let front = take 8 bytes in
    let back = take 8 (drop 8 bytes) in
    let cut : take 16 bytes ≡ front ++ back = sym (take-append-drop 8 (take 16 bytes)) ∙ ap (λ (x : List ℕ). x ++ drop 8 (take 16 bytes)) (take-take 8 16 bytes (omega arith)) ∙ ap (λ (x : List ℕ). front ++ x) (drop-take 8 8 bytes) in
    let eight : length back ≡ 8 = omega (arith, length-take 8 (drop 8 bytes), length-drop 8 bytes) in
    ap value cut ∙ value_from-append 0 front back ∙ value_from-start (value front) back ∙ ap (λ (k : ℕ). value front * 256 ^ k + value back) eight

-- the standard library's bytes of a number are these
pub high_first : (k n : ℕ) → bytes_high_first k n ≡ number k n
unfolding number
high_first zero n = refl
high_first (suc zero) n = ap (λ (x : ℕ). x % 256 ∷ []) (sym (div-one n))
high_first (suc (suc k)) n = ap (λ (x : List ℕ). n / 256 ^ suc k % 256 ∷ x) (high_first (suc k) n)

abbrev pub IsBytes : List ℕ → Type 0
IsBytes bytes = (i : ℕ) → get_or bytes i 0 < 256

-- the bytes that a number was read from
pub back_from : (k : ℕ) (bytes front rest : List ℕ) (n : ℕ) → front ≡ take k bytes → rest ≡ drop k bytes → bytes_high_first k n ≡ front → bytes ≡ number k n ++ rest
back_from k bytes front rest n f r e = sym (take-append-drop k bytes) ∙ ap (λ (x : List ℕ). x ++ drop k bytes) (sym (sym (high_first k n) ∙ e ∙ f)) ∙ ap (λ (x : List ℕ). number k n ++ x) (sym r)

pub bytes_taken : (k : ℕ) (bytes front : List ℕ) → front ≡ take k bytes → IsBytes bytes → IsBytes front
bytes_taken k bytes front f fits i = rw f (elim (cases_lt i k) [
  | inl lt ↦ rw (get_or-take k bytes i 0 lt) (fits i)
  | inr le ↦ rw (get_or_past (take k bytes) i 0 (omega (arith, length-take k bytes))) (omega arith)
])

pub whole_1 : (bytes : List ℕ) → 1 ≤ length bytes → IsBytes bytes → bytes ≡ number 1 (get_or bytes 0 0) ++ drop 1 bytes
whole_1 [] h fits = absurd (omega arith)
whole_1 (b ∷ bytes) h fits = let one : b < 256 = fits 0 in ap (λ (x : ℕ). x ∷ bytes) (sym (mod-eq_of_lt one)) ∙ ap (λ (x : List ℕ). x ++ bytes) (high_first 1 b)
