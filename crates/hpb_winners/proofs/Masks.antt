-- Building a mask place by place.
use Rattle.std.proofs.Common.{◌≡◌, ℕ, suc, ◌+◌, ◌*◌, ◌%◌, ◌^◌, ◌<◌, ◌≤◌, Bool, true, false, not, ◌&&◌, ◌||◌, ltb, List, Option, Some, None, get_or, set, length, replicate, refl, sym, ap, ◌∙◌, ⊎_elim, arith, subst}
use mir.Syntax.{w128}
use Rattle.std.specs.Prelude.{◌==◌, bit_or}
use Rattle.std.proofs.Math.Pow.{pow-lt}
use Rattle.std.proofs.lemmas.Nat.{one_shl}
use Rattle.std.proofs.lemmas.Bool.{cases_eq, cases_lt, lt-ltb, le-ltb, and_right}
use Rattle.std.proofs.lemmas.Nat.Bits.{bit_at-zero, bit_at_set_same, bit_at_set_other}
use Rattle.std.proofs.lemmas.List.{get_or_past, length-replicate, length-set, get_or-set_same, get_or-set_other}
use Rattle.std.proofs.lemmas.List.FromFn.{length-map-range_with_len, get_or-map-range_with_len}
use Rattle.hpb_rules.specs.declared.limits.TheConstants.{MOST_NODES}
use Rattle.hpb_rules.specs.Choices.{is_in}
use Rattle.hpb_rules.specs.Saved.{has_bit}
use Rattle.hpb_rules.proofs.Lists.{get_or-replicate_same}
use Rattle.hpb_rules.proofs.Masks.{ltb_other, ltb_same}
use Rattle.hpb_winners.specs.View.{AreBefore, is_ahead, is_free, or_top, wins_of}
use Rattle.hpb_winners.proofs.Winning.{free_step}

-- the bit of a place, moved to the next
pub bit_next : (i bit : ℕ) → i < 127 → bit ≡ 2 ^ i → bit * 2 ^ 1 % 2 ^ 128 ≡ 2 ^ (i + 1)
bit_next i bit small is = let next : i + 1 ≡ suc i = omega arith in omega (arith, is, ap (λ k. 2 ^ k) next, pow-lt {i = i} {j = 127} small)

-- a place is in the mask if it is among the first places and passes the test
abbrev pub AreInMask : (ℕ → Bool) → (ℕ → Bool) → ℕ → Type 0
AreInMask test is_in_mask i = (n : ℕ) → is_in_mask n ≡ (ltb n i && test n)

-- the mask has the bits of those among the first places that pass the test
abbrev pub IsMaskOf : (ℕ → Bool) → ℕ → ℕ → Type 0
IsMaskOf test i mask = AreInMask test (has_bit mask) i

-- the flags are set for those among the first places that pass the test
pub record AreFlagsOf (test : ℕ → Bool) (i : ℕ) (flags : List Bool) : Type 0 where
  pub count : length flags ≡ MOST_NODES
  pub in_mask : AreInMask test (is_in flags) i

pub mask_start : (test : ℕ → Bool) → IsMaskOf test 0 0
mask_start test n = ap (λ k. k == 1) (bit_at-zero n) ∙ sym (ap (λ b. b && test n) (le-ltb n 0 (omega arith)))

pub flags_start : (test : ℕ → Bool) {flags : List Bool} → flags ≡ replicate MOST_NODES false → AreFlagsOf test 0 flags
flags_start test {flags = flags} all = record {
  count = ap length all ∙ length-replicate MOST_NODES false;
  in_mask = λ n. ap (λ fs. is_in fs n) all ∙ get_or-replicate_same MOST_NODES n false ∙ sym (ap (λ b. b && test n) (le-ltb n 0 (omega arith)));
}

module _ (test : ℕ → Bool) (i : ℕ) where
  -- the next place is in the mask if it passes the test
  in_mask_more : (old new : ℕ → Bool) → AreInMask test old i → new i ≡ test i → ((n : ℕ) → (n ≡ i → ⊥) → new n ≡ old n) → AreInMask test new (i + 1)
  in_mask_more old new so_far here there n = ⊎_elim
      (λ same. ap new same ∙ here ∙ sym (ap (λ b. b && test n) (ltb_same n i same) ∙ ap test same))
      (λ other. there n other ∙ so_far n ∙ ap (λ b. b && test n) (sym (ltb_other n i other)))
      (cases_eq n i)

  module _ (mask : ℕ) (so_far : IsMaskOf test i mask) (small : i < 128) where
    pub mask_more : (bit : ℕ) → bit ≡ 2 ^ i → test i ≡ true → IsMaskOf test (i + 1) (bit_or mask bit)
    mask_more bit is passes = subst (λ b. IsMaskOf test (i + 1) (bit_or mask b)) (one_shl i 128 small ∙ sym is)
        (in_mask_more (has_bit mask) (has_bit (bit_or mask (1 * 2 ^ i % 2 ^ 128))) so_far (ap (λ k. k == 1) (bit_at_set_same w128 mask i small) ∙ sym passes) (λ n other. ap (λ k. k == 1) (bit_at_set_other w128 mask i small n other)))

    pub mask_same : test i ≡ false → IsMaskOf test (i + 1) mask
    mask_same fails = in_mask_more (has_bit mask) (has_bit mask) so_far (so_far i ∙ and_right (ltb i i) (test i) fails ∙ sym fails) (λ n other. refl)

  pub flags_more : (flags : List Bool) → AreFlagsOf test i flags → i < MOST_NODES → (flag : Bool) → flag ≡ test i → AreFlagsOf test (i + 1) (set flags i flag)
  flags_more flags so_far small flag is = record {
    count = length-set flags i flag ∙ so_far.count;
    in_mask = in_mask_more (is_in flags) (is_in (set flags i flag)) so_far.in_mask (get_or-set_same flags i flag false (omega (arith, so_far.count)) ∙ is) (λ n other. get_or-set_other flags i n flag false other);
  }

-- ---- winners, and the nodes that they cover

twice : (b : Bool) → not (not b) ≡ b
twice true = refl
twice false = refl

module _ (parents : List (Option ℕ)) (inside values : List ℕ) where
  abbrev pub wins_at : ℕ → Bool
  wins_at n = is_ahead inside values n && is_free parents (is_ahead inside values) n

  abbrev pub is_covered : ℕ → Bool
  is_covered n = not (not (is_ahead inside values n) && is_free parents (is_ahead inside values) n)

  -- the parent is covered if some node above is ahead
  pub under_is : AreBefore parents → (i : ℕ) (flags : List Bool) → AreFlagsOf is_covered i flags → not (or_top (get_or parents i None) (λ p. not (is_in flags p))) ≡ not (is_free parents (is_ahead inside values) i)
  under_is before i flags so_far = ap not (by (get_or parents i None) refl ∙ sym (free_step parents before (is_ahead inside values) i))
    where
      by : (c : Option ℕ) → get_or parents i None ≡ c → or_top c (λ p. not (is_in flags p)) ≡ or_top c (λ p. not (is_ahead inside values p) && is_free parents (is_ahead inside values) p)
      by None e = refl
      by (Some p) e = ap not (so_far.in_mask p ∙ ap (λ b. b && is_covered p) (lt-ltb p i (before i p e))) ∙ twice (not (is_ahead inside values p) && is_free parents (is_ahead inside values) p)

  module _ (i : ℕ) {under ahead : Bool} (below : under ≡ not (is_free parents (is_ahead inside values) i)) (more : ahead ≡ is_ahead inside values i) where
    -- whether a node is covered, and whether it wins
    pub covered_is : is_covered i ≡ (under || ahead)
    covered_is = by (is_ahead inside values i) (is_free parents (is_ahead inside values) i) ∙ sym (ap (λ b. b || is_ahead inside values i) below) ∙ sym (ap (λ b. under || b) more)
      where
        by : (a f : Bool) → not (not a && f) ≡ (not f || a)
        by true true = refl
        by true false = refl
        by false true = refl
        by false false = refl

    pub win_is : wins_at i ≡ (ahead && not under)
    win_is = ap (λ b. b && is_free parents (is_ahead inside values) i) (sym more) ∙ ap (λ b. ahead && b) (sym (ap not below ∙ twice (is_free parents (is_ahead inside values) i)))

  -- in the end the mask has the bits of the winners
  pub mask_all : (i mask : ℕ) → MOST_NODES ≤ i → IsMaskOf wins_at i mask → i ≤ MOST_NODES → (n : ℕ) → has_bit mask n ≡ is_in (wins_of parents inside values) n
  mask_all i mask all so_far most n = so_far n ∙ ⊎_elim
      (λ less. ap (λ b. b && wins_at n) (lt-ltb n i less) ∙ sym (get_or-map-range_with_len wins_at 0 MOST_NODES n n false (omega arith) (omega arith)))
      (λ past. ap (λ b. b && wins_at n) (le-ltb n i past) ∙ sym (get_or_past (wins_of parents inside values) n false (omega (arith, length-map-range_with_len wins_at 0 MOST_NODES))))
      (cases_lt n i)
