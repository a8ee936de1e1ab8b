-- Flags, and the number that they make as bits: steps that other crates' proofs cite too.
use Rattle.std.proofs.Common.{◌≡◌, ℕ, zero, suc, ◌+◌, ◌*◌, ◌/◌, ◌%◌, ◌^◌, ◌<◌, ◌≤◌, Bool, true, false, cond, eqb, ltb, ⊎_elim, List, [], ◌∷◌, map, get_or, refl, sym, ap, subst, ◌∙◌, arith}
use Rattle.std.specs.Prelude.{◌==◌}
use Rattle.std.specs.Int.{bit_at}
use Rattle.std.specs.List.{range_with_len}
use Rattle.std.proofs.Math.Pow.{pow-lt}
use Rattle.std.proofs.Math.Nat.{mod-eq_of_lt, div-one}
use Rattle.std.proofs.lemmas.Bool.{cases_lt, false_from_ne_true, le-ltb, lt-ltb}
use Rattle.std.proofs.lemmas.Nat.{mod-pow-add, shr-shr, pow_pos, shr_below, div-add-mod', mod_below}
use Rattle.std.proofs.lemmas.Nat.Bits.{bit_at_lowest, bit_at-suc, bit_at-zero}
use Rattle.hpb_rules.specs.Saved.{mask_of, has_bit}

-- ---- from flags to a number and back

pub half : (flag : Bool) (m : ℕ) → (cond flag 1 0 + 2 * m) / 2 ≡ m
half true m = omega arith
half false m = omega arith

-- a bit of the number of flags is the flag
pub bit_of_mask : (flags : List Bool) (n : ℕ) → has_bit (mask_of flags) n ≡ get_or flags n false
unfolding mask_of
bit_of_mask [] n = ap (λ (k : ℕ). eqb k 1) (bit_at-zero n)
bit_of_mask (flag ∷ flags) zero = ap (λ (k : ℕ). eqb k 1) (bit_at_lowest (cond flag 1 0 + 2 * mask_of flags)) ∙ lowest flag (mask_of flags)
  where
    lowest : (flag : Bool) (m : ℕ) → eqb ((cond flag 1 0 + 2 * m) % 2) 1 ≡ flag
    lowest true m = let e : (1 + 2 * m) % 2 ≡ 1 = omega arith in ap (λ (k : ℕ). eqb k 1) e
    lowest false m = let e : (0 + 2 * m) % 2 ≡ 0 = omega arith in ap (λ (k : ℕ). eqb k 1) e
bit_of_mask (flag ∷ flags) (suc n) = ap (λ (k : ℕ). eqb k 1) (bit_at-suc (cond flag 1 0 + 2 * mask_of flags) n ∙ ap (λ (m : ℕ). bit_at m n) (half flag (mask_of flags))) ∙ bit_of_mask flags n

-- the number of no flags is 0
pub no_flags : mask_of [] ≡ 0
unfolding mask_of
no_flags = refl

-- ---- from a number to flags and back
flag : (x : ℕ) → x < 2 → cond (x == 1) 1 0 ≡ x
flag zero h = refl
flag (suc zero) h = refl
flag (suc (suc x)) h = absurd (omega arith)

flag_is : (m i : ℕ) → cond (has_bit m i) 1 0 ≡ m / 2 ^ i % 2
flag_is m i = flag (m / 2 ^ i % 2) (omega arith)

-- the bits from a place on are the number divided down to that place
bits_from : (m i k : ℕ) → mask_of (map (has_bit m) (range_with_len i k)) ≡ m / 2 ^ i % 2 ^ k
unfolding mask_of
bits_from m i zero = omega arith
bits_from m i (suc k) =
    let y = m / 2 ^ i in
    let rest : m / 2 ^ (i + 1) ≡ y / 2 = sym (shr-shr m i 1) in
    let split : y % 2 ^ (k + 1) ≡ (y / 2 % 2 ^ k) * 2 + y % 2 = mod-pow-add y k 1 in
    let power : y % 2 ^ suc k ≡ y % 2 ^ (k + 1) = ap (λ (j : ℕ). y % 2 ^ j) (omega arith) in
    let tail : mask_of (map (has_bit m) (range_with_len (i + 1) k)) ≡ y / 2 % 2 ^ k = bits_from m (i + 1) k ∙ ap (λ (x : ℕ). x % 2 ^ k) rest in
    omega (arith, flag_is m i, tail, split, power)

-- if no bit is set from a place on, their number is 0
none_from : (m i k : ℕ) → ((n : ℕ) → i ≤ n → has_bit m n ≡ false) → mask_of (map (has_bit m) (range_with_len i k)) ≡ 0
unfolding mask_of
none_from m i zero h = refl
none_from m i (suc k) h =
    let tail = none_from m (i + 1) k (λ n l. h n (omega arith)) in
    let here : cond (has_bit m i) 1 0 ≡ 0 = ap (λ (b : Bool). cond {A = ℕ} b 1 0) (h i (omega arith)) in
    omega (arith, here, tail)

-- a number is below a power of two
below_power : (m : ℕ) → m < 2 ^ m
below_power zero = omega arith
below_power (suc m) = omega (arith, below_power m, pow-lt {i = m} {j = suc m} (omega arith))

-- a number with bits only below a place is the number of these bits
pub mask_is : (m k : ℕ) → ((n : ℕ) → has_bit m n ≡ true → n < k) → mask_of (map (has_bit m) (range_with_len 0 k)) ≡ m
mask_is m k within =
    let none : (n : ℕ) → k ≤ n → has_bit m n ≡ false = λ n l. false_from_ne_true (has_bit m n) (λ e. omega (arith, l, within n e)) in
    let more : m < 2 ^ (m + (1 + k)) = omega (arith, below_power m, pow-lt {i = m} {j = m + (1 + k)} (omega arith)) in
    let power : m + (1 + k) ≡ m + 1 + k = omega arith in
    let high : m / 2 ^ k < 2 ^ (m + 1) = shr_below m (m + 1) k (subst (λ (n : ℕ). m < 2 ^ n) power more) in
    let zeros : m / 2 ^ k ≡ 0 = sym (mod-eq_of_lt high) ∙ sym (bits_from m k (m + 1)) ∙ none_from m k (m + 1) none in
    let low : m < 2 ^ k = below m (2 ^ k) (pow_pos k) zeros in
    bits_from m 0 k ∙ ap (λ (x : ℕ). x % 2 ^ k) (div-one m) ∙ mod-eq_of_lt low
  where
    below : (m p : ℕ) → 0 < p → m / p ≡ 0 → m < p
    below m p pos e = let split = div-add-mod' m p in let less = mod_below m p pos in omega (arith, split, less, ap (λ (x : ℕ). x * p) e)

-- a number without a bit is 0
pub no_bits : (m : ℕ) → ((n : ℕ) → has_bit m n ≡ true → ⊥) → m ≡ 0
no_bits m none = sym (mask_is m 0 (λ n e. absurd (none n e))) ∙ no_flags

-- ---- the test of a place, once that place is looked at
pub ltb_same : (n i : ℕ) → n ≡ i → ltb n (i + 1) ≡ true
ltb_same n i e = lt-ltb n (i + 1) (omega arith)

pub ltb_other : (n i : ℕ) → (n ≡ i → ⊥) → ltb n (i + 1) ≡ ltb n i
ltb_other n i other = ⊎_elim
    (λ less. lt-ltb n (i + 1) (omega arith) ∙ sym (lt-ltb n i less))
    (λ no. ⊎_elim (λ above. le-ltb n (i + 1) (omega arith) ∙ sym (le-ltb n i no)) (λ le. absurd (other (omega arith))) (cases_lt i n))
    (cases_lt n i)
