-- The winners whose bits are set, as a choice.
use Rattle.std.proofs.Common.{◌≡◌, ℕ, ◌+◌, ◌/◌, ◌^◌, ◌<◌, ◌≤◌, true, eqb, List, length, get_or, sym, ◌∙◌, ⊎_elim, subst, arith, bit_and}
use Rattle.std.specs.Int.{bit_at}
use Rattle.std.proofs.lemmas.Bool.{eq-eqb, eqb-true, both_ways, cases_lt}
use Rattle.std.proofs.lemmas.List.{get_or_past}
use Rattle.std.proofs.lemmas.List.FromFn.{length-map-range_with_len, get_or-map-range_with_len}
use Rattle.std.proofs.lemmas.Nat.Bits.{shr_and_one, bit_at-lt}
use Rattle.hpb_rules.specs.Tree.{Node, IsTree}
use Rattle.hpb_rules.specs.Choices.{is_in, IsChoice}
use Rattle.hpb_rules.proofs.Above.{under_le, not_under, disjoint_from}
use Rattle.hpb_prices.specs.Certificate.{bid_listed, set_of, IsBelowWinner}

bit_from : (n i : ℕ) → (bit_and (n / 2 ^ i) 1 ≡ 0 → ⊥) → bit_at n i ≡ 1
bit_from n i h = ⊎_elim (λ less. let zero_bit : bit_at n i ≡ 0 = omega arith in absurd (h (shr_and_one n i ∙ zero_bit))) (λ le. omega (arith, bit_at-lt n i)) (cases_lt (bit_at n i) 1)

module _ (nodes : List Node) (winners : ℕ) where
  set_length : length (set_of nodes winners) ≡ length nodes
  set_length = length-map-range_with_len (λ n. eqb (bit_at winners n) 1) 0 (length nodes)

  in_set : (n : ℕ) → n < length nodes → bit_at winners n ≡ 1 → is_in (set_of nodes winners) n ≡ true
  in_set n h e = get_or-map-range_with_len (λ n. eqb (bit_at winners n) 1) 0 (length nodes) n n _ h (omega arith) ∙ eq-eqb (bit_at winners n) 1 e

  set_in : (n : ℕ) → is_in (set_of nodes winners) n ≡ true → (n < length nodes) × (bit_at winners n ≡ 1)
  set_in n e = ⊎_elim
      (λ h. (h, eqb-true (bit_at winners n) 1 (sym (get_or-map-range_with_len (λ n. eqb (bit_at winners n) 1) 0 (length nodes) n n _ h (omega arith)) ∙ e)))
      (λ past. absurd (both_ways _ (get_or_past (set_of nodes winners) n _ (omega (arith, set_length))) e))
      (cases_lt n (length nodes))

  module _ (highs : List ℕ) where
    -- each winner before place i has a high bid, and no winner above it
    pub record Chosen (i : ℕ) : Type 0 where
      pub have_bids : (n : ℕ) → n < i → bit_at winners n ≡ 1 → 0 < get_or highs n 0
      pub apart : (n : ℕ) → n < i → bit_at winners n ≡ 1 → IsBelowWinner nodes winners n → ⊥

    pub chosen_more : (i : ℕ) → (bit_at winners i ≡ 1 → 0 < get_or highs i 0) → (bit_at winners i ≡ 1 → IsBelowWinner nodes winners i → ⊥) → Chosen i → Chosen (i + 1)
    chosen_more i bid alone s = record {
      have_bids = λ n h bit. ⊎_elim (λ less. s.have_bids n less bit) (λ le. let same : i ≡ n = omega arith in subst (λ k. bit_at winners k ≡ 1 → 0 < get_or highs k 0) same bid bit) (cases_lt n i);
      apart = λ n h bit. ⊎_elim (λ less. s.apart n less bit) (λ le. let same : i ≡ n = omega arith in subst (λ k. bit_at winners k ≡ 1 → IsBelowWinner nodes winners k → ⊥) same alone bit) (cases_lt n i);
    }

    pub chosen_other : (i : ℕ) → bit_and (winners / 2 ^ i) 1 ≡ 0 → Chosen i → Chosen (i + 1)
    chosen_other i clear s = let zero_bit : bit_at winners i ≡ 0 = sym (shr_and_one winners i) ∙ clear in chosen_more i (λ bit. absurd (omega (arith, bit))) (λ bit. absurd (omega (arith, bit))) s

    module _ (tree : IsTree nodes) where
      pub chosen_all : (i : ℕ) → i ≡ length nodes → Chosen i → IsChoice nodes (bid_listed highs) (set_of nodes winners)
      chosen_all i all s = record {
        length = set_length;
        have_bids = λ n e. let here : (n < length nodes) × (bit_at winners n ≡ 1) = set_in n e in s.have_bids n (omega (arith, here.0)) here.1;
        apart = λ m n a b other.
            let left : (m < length nodes) × (bit_at winners m ≡ 1) = set_in m a in
            let right : (n < length nodes) × (bit_at winners n ≡ 1) = set_in n b in
            disjoint_from nodes tree m n
            (λ u. s.apart n (omega (arith, right.0)) right.1 (m, left.1, (u, λ e. other (sym e))))
            (λ u. s.apart m (omega (arith, left.0)) left.1 (n, right.1, (u, other)));
      }

      module _ (i node : ℕ) (within : i < length nodes) (at : node ≡ i) (wins : bit_and (winners / 2 ^ i) 1 ≡ 0 → ⊥) where
        pub no_bid_no_choice : get_or highs i 0 ≡ 0 → IsChoice nodes (bid_listed highs) (set_of nodes winners) → ⊥
        no_bid_no_choice none choice = let some : 0 < get_or highs i 0 = choice.have_bids i (in_set i within (bit_from winners i wins)) in omega (arith, none)

        pub below_no_choice : IsBelowWinner nodes winners node → IsChoice nodes (bid_listed highs) (set_of nodes winners) → ⊥
        below_no_choice here choice =
            let b : IsBelowWinner nodes winners i = subst (IsBelowWinner nodes winners) at here in
            let le : b.0 ≤ i = under_le nodes tree b.2.0 in
            not_under nodes tree b.0 i within (choice.apart b.0 i (in_set b.0 (omega arith) b.1) (in_set i within (bit_from winners i wins)) (λ e. b.2.1 (sym e))) b.2.0
