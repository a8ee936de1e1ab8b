-- The greatest bit of a mask, the bits that are left, and the first bits of a mask.
use Rattle.std.proofs.Common.{◌≡◌, ℕ, suc, ◌+◌, ◌-◌, ◌*◌, ◌/◌, ◌%◌, ◌^◌, ◌<◌, ◌≤◌, true, false, Some, sym, ap, ◌∙◌, arith, subst, ⊎_elim}
use Rattle.std.specs.Prelude.{◌==◌, bit_and, min}
use Rattle.std.specs.Int.{bit_at}
use Rattle.std.specs.Int.Count.{count_leading_zeros}
use Rattle.std.proofs.Math.Pow.{pow-lt}
use Rattle.std.proofs.lemmas.Bool.{cases_lt, both_ways}
use Rattle.std.proofs.lemmas.Nat.{leading_top, one_shl, and_mask, mod_below, pow_pos, div-add-mod', pow-add}
use Rattle.std.proofs.lemmas.Nat.Bits.{bit_at_and, bit_at_ones, bit_at-lt, bit_at_lowest, bit_at_cat_low, bit_at_cat_high, bit_at_above}
use Rattle.hpb_rules.specs.Saved.{has_bit}
use Rattle.hpb_winners.specs.Places.{IsGreatestTaken, IsTopPlace}

-- the greatest bit of a word of 64 bits stands at this place
pub greatest_bit : (a : ℕ) → 0 < a → a < 2 ^ 64 → IsTopPlace a (63 - count_leading_zeros 64 a)
greatest_bit a some most =
    let top : (j : ℕ) × (count_leading_zeros 64 a + suc j ≡ 64) × (2 ^ j ≤ a) × (a < 2 ^ suc j) = leading_top 64 a some most in
    let here : top.0 ≡ 63 - count_leading_zeros 64 a = omega (arith, top.1) in
    subst (IsTopPlace a) here (record {
      within = omega (arith, top.1);
      least = top.2;
      most = omega (arith, top.3);
    })

-- a bit of the low word
pub low_bit : (place : ℕ) → place < 64 → 1 * 2 ^ place % 2 ^ 64 ≡ 2 ^ place
low_bit place within = one_shl place 64 within

-- a bit of the high word
pub high_bit : (place : ℕ) → place < 64 → (1 * 2 ^ place % 2 ^ 64) * 2 ^ 64 % 2 ^ 128 ≡ 2 ^ (place + 64)
high_bit place within =
    ap (λ k. k * 2 ^ 64 % 2 ^ 128) (one_shl place 64 within)
    ∙ ap (λ k. k % 2 ^ 128) (let e : 2 ^ place * 2 ^ 64 ≡ 1 * 2 ^ (place + 64) = omega (arith, pow-add 2 place 64) in e)
    ∙ one_shl (place + 64) 128 (omega arith)

-- the greatest bit of the high word is that of the whole number
pub high_top : (a place : ℕ) → IsTopPlace (a / 2 ^ 64) place → (2 ^ (place + 64) ≤ a) × (a < 2 ^ (place + 64) + 2 ^ (place + 64))
high_top a place top =
    let parts : a / 2 ^ 64 * 2 ^ 64 + a % 2 ^ 64 ≡ a = div-add-mod' a (2 ^ 64) in
    let rest : a % 2 ^ 64 < 2 ^ 64 = mod_below a (2 ^ 64) (omega arith) in
    let whole : 2 ^ place * 2 ^ 64 ≡ 2 ^ (place + 64) = omega (arith, pow-add 2 place 64) in
    (omega (arith, parts, rest, whole, top.least), omega (arith, parts, rest, whole, top.most))

module _ {old rest : ℕ} (place : ℕ) (taken : IsGreatestTaken old (Some place) rest) where
  together : old ≡ 1 * 2 ^ place + rest
  together = omega (arith, taken.0)

  -- the bit at the place is set
  pub taken_here : has_bit old place ≡ true
  taken_here =
      let none : place - place ≡ 0 = omega arith in
      ap (λ m. has_bit m place) together ∙ ap (λ k. k == 1) (bit_at_cat_high 1 place rest place taken.1 (omega arith) ∙ ap (bit_at 1) none ∙ bit_at_lowest 1)

  -- no bit behind it is set
  pub taken_behind : (n : ℕ) → place < n → has_bit old n ≡ false
  taken_behind n h = ap (λ k. k == 1) (bit_at_above old (suc place) n (omega (arith, taken.0, taken.1)) (omega arith))

  -- the bits before it stay
  pub taken_before : (n : ℕ) → n < place → has_bit rest n ≡ has_bit old n
  taken_before n h = ap (λ k. k == 1) (sym (bit_at_cat_low 1 place rest n h)) ∙ ap (λ m. has_bit m n) (sym together)

  -- the rest has no bit from the place on
  pub rest_before : (n : ℕ) → has_bit rest n ≡ true → n < place
  rest_before n e = ⊎_elim (λ less. less) (λ le. absurd (both_ways (has_bit rest n) (ap (λ k. k == 1) (bit_at_above rest place n taken.1 le)) e)) (cases_lt n place)

  -- if the mask is within a bound of bits, the place is too
  pub taken_within : (bound : ℕ) → old < 2 ^ bound → place < bound
  taken_within bound most = ⊎_elim (λ less. less) (λ le. absurd (omega (arith, taken.0, most, powers le))) (cases_lt place bound)
    where
      powers : bound ≤ place → 2 ^ bound ≤ 2 ^ place
      powers le = ⊎_elim (λ less. omega (arith, pow-lt less)) (λ no. omega (arith, ap (λ k. 2 ^ k) (let e : bound ≡ place = omega arith in e))) (cases_lt bound place)

-- ---- the first bits of a mask

module _ (mask count : ℕ) (low : count < 128) where
  shifted : 1 * 2 ^ count % 2 ^ 128 ≡ 2 ^ count
  shifted = one_shl count 128 low

  pub bits_same : (n : ℕ) → n < count → has_bit (bit_and mask (1 * 2 ^ count % 2 ^ 128 - 1)) n ≡ has_bit mask n
  bits_same n h = ap (λ m. has_bit (bit_and mask (m - 1)) n) shifted ∙ ap (λ k. k == 1) (bit_at_and mask (2 ^ count - 1) n ∙ ap (min (bit_at mask n)) (bit_at_ones count n h) ∙ least)
    where
      least : min (bit_at mask n) 1 ≡ bit_at mask n
      least = omega (arith, bit_at-lt mask n)

  pub bits_within : bit_and mask (1 * 2 ^ count % 2 ^ 128 - 1) < 2 ^ count
  bits_within = subst (λ m. m < 2 ^ count) (sym (ap (λ m. bit_and mask (m - 1)) shifted ∙ and_mask mask count)) (mod_below mask (2 ^ count) (pow_pos count))
