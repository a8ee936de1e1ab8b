-- The licences that winners hold, winner by winner.
use Rattle.std.proofs.Common.{◌≡◌, ℕ, ◌+◌, ◌^◌, ◌<◌, Bool, true, false, ◌&&◌, ◌||◌, List, Some, None, get_or, length, refl, sym, ap, ◌∙◌, ⊎_elim, arith}
use Rattle.std.specs.Prelude.{◌==◌}
use Rattle.std.specs.Option.{IsSome}
use Rattle.std.specs.List.{list_any}
use Rattle.std.proofs.Math.Bool.{or-false}
use Rattle.std.proofs.lemmas.Bool.{cases_lt, both_ways, and_parts, and_from, or_cases, or_left, or_right, false_from_ne_true}
use Rattle.std.proofs.lemmas.List.Folds.{list_any_at}
use Rattle.std.proofs.lemmas.List.FromFn.{length-range_with_len, get_or-range_with_len}
use Rattle.std.proofs.lemmas.Nat.Bits.{bit_at-zero}
use Rattle.hpb_rules.specs.Choices.{is_in}
use Rattle.hpb_rules.specs.History.{is_of}
use Rattle.hpb_rules.specs.Saved.{has_bit}
use Rattle.hpb_rules.specs.Tree.{Node, terms_of, places, at_or_under}
use Rattle.hpb_rules.proofs.Tests.{same_answer}
use Rattle.hpb_bids.specs.View.{BooksView, IsQuiet, offer_at}
use Rattle.hpb_winners.specs.View.{OutcomeView}
use Rattle.hpb_winners.specs.Places.{IsGreatestTaken}
use Rattle.hpb_winners.proofs.Along.{any_some}
use Rattle.hpb_winners.proofs.GreatestBit.{taken_here, taken_behind, taken_before, taken_within, rest_before}
use Rattle.hpb_units.specs.Activity.{is_won_by}
use Rattle.hpb_units.specs.Holdings.{HoldingsView, holds, IsNothing, AreLicenceUnits, AreSummed, AreHoldings, HoldsMore}
use Rattle.hpb_units.proofs.Held.{held_won, nothing_holds, nothing_summed}

module _ (nodes : List Node) where
  any_at : (test : ℕ → Bool) (n : ℕ) → n < length nodes → test n ≡ true → list_any test (places nodes) ≡ true
  any_at test n h e =
      let at : get_or (places nodes) n 0 ≡ n = get_or-range_with_len 0 (length nodes) n 0 h ∙ omega arith in
      list_any_at test (places nodes) n 0 (omega (arith, length-range_with_len 0 (length nodes), h)) (ap test at ∙ e)

  any_same : (one other : ℕ → Bool) → ((n : ℕ) → n < length nodes → one n ≡ other n) → list_any one (places nodes) ≡ list_any other (places nodes)
  any_same one other same = same_answer (list_any one (places nodes)) (list_any other (places nodes)) (there one other same) (there other one (λ n h. sym (same n h)))
    where
      there : (one other : ℕ → Bool) → ((n : ℕ) → n < length nodes → one n ≡ other n) → list_any one (places nodes) ≡ true → list_any other (places nodes) ≡ true
      there one other same e =
          let some : (m : ℕ) × (m < 0 + length nodes) × (one m ≡ true) = any_some one 0 (length nodes) e in
          any_at other some.0 (omega (arith, some.1)) (sym (same some.0 (omega (arith, some.1))) ∙ some.2)

  module _ (books : BooksView) (outcome : OutcomeView) where
    -- a node holds the licence, and its high bid is the bidder's
    abbrev brings : ℕ → ℕ → ℕ → Bool
    brings b l n = at_or_under nodes n l && is_of b (offer_at books.standing n)

    -- some node of a mask does
    abbrev to_come : ℕ → ℕ → ℕ → Bool
    to_come mask b l = list_any (λ n. has_bit mask n && brings b l n) (places nodes)

    -- the licences held so far and those of the winners that are left are the licences won
    pub record AreWon (holdings : HoldingsView) (left : ℕ) : Type 0 where
      pub licences : (b l : ℕ) → IsSome (terms_of nodes l) → (holds nodes holdings b l || to_come left b l) ≡ list_any (λ n. at_or_under nodes n l && is_won_by books outcome b n) (places nodes)
      pub summed : AreSummed nodes holdings
      pub within : left < 2 ^ length nodes

    -- nothing is held yet, and all winners are left
    pub won_start : (holdings : HoldingsView) (winners : ℕ) → IsNothing holdings → AreLicenceUnits nodes holdings.licence_units → ((n : ℕ) → n < length nodes → has_bit winners n ≡ is_in outcome.wins n) → winners < 2 ^ length nodes → AreWon holdings winners
    won_start holdings winners none known wins within = record {
      licences = λ b l some.
          ap (λ t. t || to_come winners b l) (nothing_holds nodes holdings none b l)
          ∙ any_same (λ n. has_bit winners n && brings b l n) (λ n. at_or_under nodes n l && is_won_by books outcome b n)
          (λ n h. ap (λ t. t && brings b l n) (wins n h) ∙ swapped (is_in outcome.wins n) (at_or_under nodes n l) (is_of b (offer_at books.standing n)));
      summed = nothing_summed nodes holdings none known;
      within = within;
    }
      where
        swapped : (x y z : Bool) → (x && (y && z)) ≡ (y && (x && z))
        swapped true true z = refl
        swapped true false z = refl
        swapped false true z = refl
        swapped false false z = refl

    -- ---- taking the greatest place of the winners that are left
    module _ {holdings : HoldingsView} {left place rest node : ℕ} (won : AreWon holdings left) (taken : IsGreatestTaken left (Some place) rest) (same : node ≡ place) where
      pub won_within : node < length nodes
      won_within = omega (arith, same, taken_within place taken (length nodes) won.within)

      pub less_left : rest < 2 ^ length nodes
      less_left = omega (arith, taken.0, won.within)

      one_more : (b l : ℕ) → to_come left b l ≡ (to_come rest b l || brings b l node)
      one_more b l = same_answer (to_come left b l) (to_come rest b l || brings b l node) there back
        where
          there : to_come left b l ≡ true → (to_come rest b l || brings b l node) ≡ true
          there e =
              let some : (m : ℕ) × (m < 0 + length nodes) × ((has_bit left m && brings b l m) ≡ true) = any_some (λ n. has_bit left n && brings b l n) 0 (length nodes) e in
              let both : (has_bit left some.0 ≡ true) × (brings b l some.0 ≡ true) = and_parts (has_bit left some.0) (brings b l some.0) some.2 in
              ⊎_elim
              (λ less. or_left (to_come rest b l) (brings b l node) (any_at (λ n. has_bit rest n && brings b l n) some.0 (omega (arith, some.1)) (and_from (has_bit rest some.0) (brings b l some.0) (taken_before place taken some.0 less ∙ both.0) both.1)))
              (λ no. ⊎_elim
              (λ behind. absurd (both_ways (has_bit left some.0) (taken_behind place taken some.0 behind) both.0))
              (λ le. let here : some.0 ≡ node = omega (arith, same) in or_right (to_come rest b l) (brings b l node) (ap (brings b l) (sym here) ∙ both.1))
              (cases_lt place some.0))
              (cases_lt some.0 place)

          back : (to_come rest b l || brings b l node) ≡ true → to_come left b l ≡ true
          back e = ⊎_elim
              (λ later.
              let some : (m : ℕ) × (m < 0 + length nodes) × ((has_bit rest m && brings b l m) ≡ true) = any_some (λ n. has_bit rest n && brings b l n) 0 (length nodes) later in
              let both : (has_bit rest some.0 ≡ true) × (brings b l some.0 ≡ true) = and_parts (has_bit rest some.0) (brings b l some.0) some.2 in
              any_at (λ n. has_bit left n && brings b l n) some.0 (omega (arith, some.1)) (and_from (has_bit left some.0) (brings b l some.0) (sym (taken_before place taken some.0 (rest_before place taken some.0 both.0)) ∙ both.0) both.1))
              (λ here. any_at (λ n. has_bit left n && brings b l n) node won_within (and_from (has_bit left node) (brings b l node) (ap (has_bit left) same ∙ taken_here place taken) here))
              (or_cases (to_come rest b l) (brings b l node) e)

      -- its bidder now holds its licences
      pub won_more : {new : HoldingsView} (winner : ℕ) → ((b : ℕ) → is_of b (offer_at books.standing node) ≡ (winner == b)) → HoldsMore nodes holdings new winner node → AreSummed nodes new → AreWon new rest
      won_more winner who more summed = record {
        licences = λ b l some.
            ap (λ t. t || to_come rest b l) (more b l some)
            ∙ moved (holds nodes holdings b l) (winner == b) (is_of b (offer_at books.standing node)) (at_or_under nodes node l) (to_come rest b l) (who b)
            ∙ ap (λ t. holds nodes holdings b l || t) (sym (one_more b l))
            ∙ won.licences b l some;
        summed = summed;
        within = less_left;
      }
        where
          moved : (x v w u y : Bool) → w ≡ v → ((x || (v && u)) || y) ≡ (x || (y || (u && w)))
          moved true v w u y e = refl
          moved false true w true true e = refl
          moved false true w true false e = sym e
          moved false true w false true e = refl
          moved false true w false false e = refl
          moved false false w true true e = refl
          moved false false w true false e = sym e
          moved false false w false true e = refl
          moved false false w false false e = refl

      -- it has no high bid
      pub won_none : offer_at books.standing node ≡ None → AreWon holdings rest
      won_none none = record {
        licences = λ b l some.
            ap (λ t. holds nodes holdings b l || t) (fewer (to_come rest b l) (at_or_under nodes node l) (is_of b (offer_at books.standing node)) (ap (is_of b) none) ∙ sym (one_more b l))
            ∙ won.licences b l some;
        summed = won.summed;
        within = less_left;
      }
        where
          fewer : (y u w : Bool) → w ≡ false → y ≡ (y || (u && w))
          fewer true u w e = refl
          fewer false true w e = sym e
          fewer false false w e = refl

    -- ---- in the end no winner is left, and if nobody has bid since, the holdings are right
    pub won_all : {holdings : HoldingsView} {left rest : ℕ} → IsQuiet books → IsGreatestTaken left None rest → AreWon holdings left → AreHoldings nodes books outcome holdings
    won_all {holdings = holdings} {left = left} quiet none won = record {
      licences = λ b l within some.
          sym (or-false (holds nodes holdings b l)) ∙ ap (λ t. holds nodes holdings b l || t) (sym (no_more b l)) ∙ won.licences b l some ∙ held_won nodes books outcome quiet b l;
      summed = won.summed;
    }
      where
        no_more : (b l : ℕ) → to_come left b l ≡ false
        no_more b l = false_from_ne_true (to_come left b l) (λ e.
            let some : (m : ℕ) × (m < 0 + length nodes) × ((has_bit left m && brings b l m) ≡ true) = any_some (λ n. has_bit left n && brings b l n) 0 (length nodes) e in
            both_ways (has_bit left some.0) (ap (λ m. has_bit m some.0) none.0 ∙ ap (λ k. k == 1) (bit_at-zero some.0)) (and_parts (has_bit left some.0) (brings b l some.0) some.2).0)
