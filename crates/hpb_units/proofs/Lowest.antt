-- The lowest bit of a mask and the others.
use Rattle.std.proofs.Common.{◌≡◌, ℕ, zero, suc, ◌+◌, ◌-◌, ◌*◌, ◌/◌, ◌%◌, ◌^◌, ◌<◌, bit_and, Bool, true, false, ◌&&◌, ◌||◌, eqb, refl, sym, ap, ◌∙◌, arith, ⊎_elim}
use Rattle.std.specs.Int.{bit_at}
use Rattle.std.proofs.lemmas.Bool.{cases_lt, both_ways, eqb-true, eq-eqb}
use Rattle.std.proofs.lemmas.Nat.{mod_below, pow_pos, div-add-mod'}
use Rattle.std.proofs.lemmas.Nat.Bits.{bit_at_and, bit_at-zero, bit_at-suc, bit_at_lowest, bit_at_above, bit_at_cat_low, bit_at_cat_high, same_from_bits}

-- a mask has its lowest bit at this place
pub record IsLowest (mask place : ℕ) : Type 0 where
  pub here : bit_at mask place ≡ 1
  pub before : (k : ℕ) → k < place → bit_at mask k ≡ 0

-- the mask without its lowest bit
abbrev pub without_lowest : ℕ → ℕ
without_lowest mask = bit_and mask (mask - 1)

-- an odd number and the even one below it have the same bits but the lowest
odd_bits : (h k : ℕ) → h % 2 ≡ 1 → 0 < k → bit_at (h - 1) k ≡ bit_at h k
odd_bits h zero odd some = absurd (omega arith)
odd_bits h (suc k) odd some =
    let half : (h - 1) / 2 ≡ h / 2 = omega (arith, odd) in
    bit_at-suc (h - 1) k ∙ ap (λ m. bit_at m k) half ∙ sym (bit_at-suc h k)

-- the number below an odd one is even
even : (h : ℕ) → h % 2 ≡ 1 → (h - 1) % 2 ≡ 0
even h odd = omega (arith, odd)

-- one less than a multiple
before_multiple : (h g q : ℕ) → h ≡ g + 1 → 0 < q → h * q + 0 - 1 ≡ g * q + (q - 1)
before_multiple h g q e some = let more : h * q ≡ g * q + q = ap (λ k. k * q) e ∙ omega arith in omega (arith, more, some)

module _ (mask place : ℕ) (low : IsLowest mask place) where
  abbrev high : ℕ
  high = mask / 2 ^ place

  -- no bit below the place is set
  none_below : mask % 2 ^ place ≡ 0
  none_below = same_from_bits (mask % 2 ^ place) 0 (λ k. ⊎_elim
      (λ less. sym (bit_at_cat_low high place (mask % 2 ^ place) k less) ∙ ap (λ m. bit_at m k) (div-add-mod' mask (2 ^ place)) ∙ low.before k less ∙ sym (bit_at-zero k))
      (λ le. bit_at_above (mask % 2 ^ place) place k (mod_below mask (2 ^ place) (pow_pos place)) le ∙ sym (bit_at-zero k))
      (cases_lt k place))

  whole : mask ≡ high * 2 ^ place + 0
  whole = sym (div-add-mod' mask (2 ^ place)) ∙ ap (λ r. high * 2 ^ place + r) none_below

  one_less : mask - 1 ≡ (high - 1) * 2 ^ place + (2 ^ place - 1)
  one_less = ap (λ m. m - 1) whole ∙ before_multiple high (high - 1) (2 ^ place) (omega (arith, low.here)) (pow_pos place)

  -- the other bits stay
  pub lowest_others : (k : ℕ) → (k ≡ place → ⊥) → bit_at (without_lowest mask) k ≡ bit_at mask k
  lowest_others k other = bit_at_and mask (mask - 1) k ∙ ⊎_elim
      (λ less. let none : bit_at mask k ≡ 0 = low.before k less in omega (arith, none))
      (λ le.
      let same : bit_at (mask - 1) k ≡ bit_at mask k =
      ap (λ m. bit_at m k) one_less
      ∙ bit_at_cat_high (high - 1) place (2 ^ place - 1) k (omega (arith, pow_pos place)) le
      ∙ odd_bits high (k - place) low.here (omega (arith, le, other))
      ∙ sym (bit_at_cat_high high place 0 k (pow_pos place) le)
      ∙ ap (λ m. bit_at m k) (sym whole) in
      omega (arith, same))
      (cases_lt k place)

  -- the lowest bit is gone
  pub lowest_gone : bit_at (without_lowest mask) place ≡ 0
  lowest_gone =
      let at : place - place ≡ 0 = omega arith in
      let none : bit_at (mask - 1) place ≡ 0 =
      ap (λ m. bit_at m place) one_less
      ∙ bit_at_cat_high (high - 1) place (2 ^ place - 1) place (omega (arith, pow_pos place)) (omega arith)
      ∙ ap (bit_at (high - 1)) at
      ∙ bit_at_lowest (high - 1)
      ∙ even high low.here in
      bit_at_and mask (mask - 1) place ∙ omega (arith, none)

  -- each bit of the mask is the lowest or one of the others
  pub lowest_or : (k : ℕ) → eqb (bit_at mask k) 1 ≡ (eqb k place || eqb (bit_at (without_lowest mask) k) 1)
  lowest_or k = by (eqb k place) refl
    where
      by : (t : Bool) → eqb k place ≡ t → eqb (bit_at mask k) 1 ≡ (t || eqb (bit_at (without_lowest mask) k) 1)
      by true e = ap (λ k. eqb (bit_at mask k) 1) (eqb-true k place e) ∙ ap (λ b. eqb b 1) low.here
      by false e = ap (λ b. eqb b 1) (sym (lowest_others k (λ same. both_ways (eqb k place) e (eq-eqb k place same))))

  -- and not both
  pub lowest_apart : (k : ℕ) → (eqb k place && eqb (bit_at (without_lowest mask) k) 1) ≡ false
  lowest_apart k = by (eqb k place) refl
    where
      by : (t : Bool) → eqb k place ≡ t → (t && eqb (bit_at (without_lowest mask) k) 1) ≡ false
      by true e = ap (λ k. eqb (bit_at (without_lowest mask) k) 1) (eqb-true k place e) ∙ ap (λ b. eqb b 1) lowest_gone
      by false e = refl
