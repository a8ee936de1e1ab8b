-- Sums of the amounts whose bits are set.
use Rattle.std.proofs.Common.{◌≡◌, ℕ, suc, ◌+◌, ◌/◌, ◌^◌, ◌<◌, cond, eqb, List, length, get_or, drop, sym, ap, ◌∙◌, arith, bit_and}
use Rattle.std.specs.Int.{bit_at}
use Rattle.std.proofs.lemmas.Bool.{eq-eqb, ne_eqb}
use Rattle.std.proofs.lemmas.List.{at_drop_more}
use Rattle.std.proofs.lemmas.Nat.Bits.{shr_and_one}
use Rattle.hpb_prices.specs.Certificate.{sum_where}

module _ (set place : ℕ) (amounts : List ℕ) (within : place < length amounts) where
  pub sum_next : sum_where set place (drop place amounts) ≡ cond (eqb (bit_at set place) 1) (get_or amounts place 0) 0 + sum_where set (place + 1) (drop (place + 1) amounts)
  sum_next = at_drop_more (sum_where set place) amounts place 0 within
      ∙ ap (λ k. cond (eqb (bit_at set place) 1) (get_or amounts place 0) 0 + sum_where set k (drop (place + 1) amounts)) (let e : suc place ≡ place + 1 = omega arith in e)

  pub sum_taken : bit_and (set / 2 ^ place) 1 ≡ 1 → sum_where set place (drop place amounts) ≡ get_or amounts place 0 + sum_where set (place + 1) (drop (place + 1) amounts)
  sum_taken h = sum_next ∙ ap (λ t. cond t (get_or amounts place 0) 0 + sum_where set (place + 1) (drop (place + 1) amounts)) (eq-eqb (bit_at set place) 1 (sym (shr_and_one set place) ∙ h))

  pub sum_left : (bit_and (set / 2 ^ place) 1 ≡ 1 → ⊥) → sum_where set place (drop place amounts) ≡ sum_where set (place + 1) (drop (place + 1) amounts)
  sum_left h = sum_next ∙ ap (λ t. cond t (get_or amounts place 0) 0 + sum_where set (place + 1) (drop (place + 1) amounts)) (ne_eqb (bit_at set place) 1 (λ e. h (shr_and_one set place ∙ e))) ∙ omega arith
