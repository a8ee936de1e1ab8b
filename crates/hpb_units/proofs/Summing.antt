-- The units of a mask, licence by licence, and the units of a node's licences that aren't held.
use Rattle.std.proofs.Common.{◌≡◌, ℕ, zero, suc, ◌+◌, ◌-◌, ◌*◌, ◌^◌, ◌<◌, ◌≤◌, min, false, ◌&&◌, ◌||◌, eqb, List, bit_and, length, refl, sym, ap, ◌∙◌, arith, ⊎_elim}
use Rattle.std.specs.Prelude.{slice_index}
use Rattle.std.specs.Option.{IsSome}
use Rattle.std.specs.Int.{bit_at, bit_not, trailing_zeros, w64}
use Rattle.std.proofs.lemmas.Bool.{cases_lt}
use Rattle.std.proofs.lemmas.Nat.{and_le_l}
use Rattle.std.proofs.lemmas.Nat.Bits.{bit_at_and, bit_at_not, bit_at-lt, bit_at_above, bit_at-trailing_zeros}
use Rattle.hpb_rules.specs.declared.limits.TheConstants.{MOST_LICENCES, MOST_LICENCE_UNITS}
use Rattle.hpb_rules.specs.Tree.{Node, terms_of, at_or_under, units_at}
use Rattle.hpb_tree.specs.Licences.{licence_count, licence_number, IsMask}
use Rattle.hpb_units.specs.Activity.{has_licence}
use Rattle.hpb_units.specs.Holdings.{AreLicenceUnits, AreSmall}
use Rattle.hpb_units.proofs.Counting.{sum_over_same, number_small}
use Rattle.hpb_units.proofs.Masks.{node_in_mask}
use Rattle.hpb_units.proofs.Held.{units_of_mask, units_either, sum_over_either, sum_over_small}
use Rattle.hpb_units.proofs.Lowest.{IsLowest, without_lowest, lowest_or, lowest_apart}
use Rattle.hpb_units.proofs.Numbers.{IsNumbered, numbered, has_number, sum_numbered}

-- the place that the code finds
pub lowest_found : (mask : ℕ) → 0 < mask → mask < 2 ^ 64 → IsLowest mask (trailing_zeros w64 mask)
lowest_found mask some most =
    let found = bit_at-trailing_zeros w64 mask some most in
    record { here = found.1; before = found.2 }

module _ (nodes : List Node) where
  -- the sum over the licences taken out of a mask so far, and the mask of those that are left
  pub record IsSummedTo (mask rest total : ℕ) : Type 0 where
    pub within : rest < 2 ^ licence_count nodes
    pub summed : total + units_of_mask nodes rest ≡ units_of_mask nodes mask

  -- each bit of such a mask is a licence's
  bit_within : (rest place : ℕ) → rest < 2 ^ licence_count nodes → IsLowest rest place → place < licence_count nodes
  bit_within rest place most low = ⊎_elim (λ less. less) (λ le. absurd (omega (arith, low.here, bit_at_above rest (licence_count nodes) place most le))) (cases_lt place (licence_count nodes))

  -- the units of a mask are those of its lowest licence and of the others
  pub sum_lowest : (table : List ℕ) (rest place : ℕ) → AreLicenceUnits nodes table → rest < 2 ^ licence_count nodes → IsLowest rest place
      → units_of_mask nodes rest ≡ slice_index table place + units_of_mask nodes (without_lowest rest)
  sum_lowest table rest place are most low =
      let at : (l : ℕ) × IsNumbered nodes place l = numbered nodes place (length nodes) (bit_within rest place most low) in
      let read : slice_index table place ≡ units_at nodes at.0 = ap (slice_index table) (sym at.1.is) ∙ are at.0 at.1.some in
      sum_over_same nodes (has_licence nodes rest) (λ l. has_number nodes place l || has_licence nodes (without_lowest rest) l) (units_at nodes) (λ l some. lowest_or rest place low (licence_number nodes l))
      ∙ sum_over_either nodes (has_number nodes place) (has_licence nodes (without_lowest rest)) (units_at nodes) (λ l some. lowest_apart rest place low (licence_number nodes l))
      ∙ ap (λ own. own + units_of_mask nodes (without_lowest rest)) (sum_numbered nodes place at.0 at.1 ∙ sym read)

  -- one licence more is summed
  pub summed_next : (table : List ℕ) (mask rest total : ℕ) → AreLicenceUnits nodes table → 0 < rest → rest < 2 ^ 64 → IsSummedTo mask rest total
      → IsSummedTo mask (without_lowest rest) (total + slice_index table (trailing_zeros w64 rest))
  summed_next table mask rest total are some most s = record {
    within = omega (arith, and_le_l rest (rest - 1), s.within);
    summed = omega (arith, s.summed, sum_lowest table rest (trailing_zeros w64 rest) are s.within (lowest_found rest some most));
  }

  -- and the total stays small
  pub summed_small : (table : List ℕ) (mask rest total : ℕ) → AreSmall nodes → AreLicenceUnits nodes table → 0 < rest → rest < 2 ^ 64 → IsSummedTo mask rest total
      → total + slice_index table (trailing_zeros w64 rest) ≤ MOST_LICENCE_UNITS * licence_count nodes
  summed_small table mask rest total small are some most s =
      omega (arith, s.summed, sum_lowest table rest (trailing_zeros w64 rest) are s.within (lowest_found rest some most), sum_over_small nodes (has_licence nodes mask) small)

  -- ---- the licences of a node that aren't held
  module _ (own more n : ℕ) (mask : IsMask nodes n more) where
    -- the licences of the node that the bidder does not hold
    abbrev pub others : ℕ
    others = bit_and more (bit_not w64 own)

    -- each is a licence of the tree
    pub others_within : others < 2 ^ licence_count nodes
    others_within = omega (arith, and_le_l more (bit_not w64 own), mask.most)

    module _ (few : licence_count nodes ≤ MOST_LICENCES) (fits : own < 2 ^ 64) where
      others_bit : (l : ℕ) → IsSome (terms_of nodes l) → bit_at others (licence_number nodes l) ≡ min (bit_at more (licence_number nodes l)) (1 - bit_at own (licence_number nodes l))
      others_bit l some = bit_at_and more (bit_not w64 own) (licence_number nodes l) ∙ ap (min (bit_at more (licence_number nodes l))) (bit_at_not w64 own (licence_number nodes l) fits (number_small nodes l few some))

      others_in_mask : (l : ℕ) → IsSome (terms_of nodes l) → (has_licence nodes own l || at_or_under nodes n l) ≡ (has_licence nodes own l || has_licence nodes others l)
      others_in_mask l some =
          ap (λ b. has_licence nodes own l || b) (sym (node_in_mask nodes n more l mask some))
          ∙ either (bit_at own (licence_number nodes l)) (bit_at more (licence_number nodes l)) (bit_at others (licence_number nodes l)) (bit_at-lt own (licence_number nodes l)) (bit_at-lt more (licence_number nodes l)) (others_bit l some)
        where
          either : (x y z : ℕ) → x < 2 → y < 2 → z ≡ min y (1 - x) → (eqb x 1 || eqb y 1) ≡ (eqb x 1 || eqb z 1)
          either zero y z p q e = ap (λ k. eqb k 1) (let same : y ≡ z = omega (arith, e, q) in same)
          either (suc zero) y z p q e = refl
          either (suc (suc x)) y z p q e = absurd (omega arith)

      others_apart : (l : ℕ) → IsSome (terms_of nodes l) → (has_licence nodes own l && has_licence nodes others l) ≡ false
      others_apart l some = apart (bit_at own (licence_number nodes l)) (bit_at more (licence_number nodes l)) (bit_at others (licence_number nodes l)) (bit_at-lt own (licence_number nodes l)) (others_bit l some)
        where
          apart : (x y z : ℕ) → x < 2 → z ≡ min y (1 - x) → (eqb x 1 && eqb z 1) ≡ false
          apart zero y z p e = refl
          apart (suc zero) y z p e = ap (λ k. eqb k 1) (let none : z ≡ 0 = omega (arith, e) in none)
          apart (suc (suc x)) y z p e = absurd (omega arith)

      -- the units of both masks together are those held and those of the others
      pub sum_others : units_either nodes own n ≡ units_of_mask nodes own + units_of_mask nodes others
      sum_others =
          sum_over_same nodes (λ l. has_licence nodes own l || at_or_under nodes n l) (λ l. has_licence nodes own l || has_licence nodes others l) (units_at nodes) others_in_mask
          ∙ sum_over_either nodes (has_licence nodes own) (has_licence nodes others) (units_at nodes) others_apart

  -- the same for the mask that was read
  pub read_others : {read own : ℕ} (more n : ℕ) → IsMask nodes n more → licence_count nodes ≤ MOST_LICENCES → read < 2 ^ 64 → read ≡ own → units_either nodes own n ≡ units_of_mask nodes own + units_of_mask nodes (bit_and more (bit_not w64 read))
  read_others {read = read} more n mask few fits is =
      ap (λ m. units_either nodes m n) (sym is) ∙ sum_others read more n mask few fits ∙ ap (λ m. units_of_mask nodes m + units_of_mask nodes (bit_and more (bit_not w64 read))) is
