-- A mask that is filled licence by licence.
use Rattle.std.proofs.Common.{◌≡◌, ℕ, ◌+◌, ◌*◌, ◌%◌, ◌<◌, ◌≤◌, ◌^◌, true, false, cond, List, length, bit_or, w64, refl, sym, ap, ◌∙◌, ⊎_elim, subst, lit<, arith}
use mir.Val.{bits}
use Rattle.std.proofs.Math.Nat.{mod-eq_of_lt}
use Rattle.std.proofs.Math.Pow.{pow-lt}
use Rattle.std.specs.Option.{IsSome, is_some}
use Rattle.std.specs.Int.{bit_at}
use Rattle.std.specs.List.{range_with_len}
use Rattle.std.proofs.lemmas.Bool.{cases_lt, both_ways}
use Rattle.std.proofs.lemmas.Nat.{or_lt}
use Rattle.std.proofs.lemmas.Nat.Bits.{bit_at_above, bit_at_set_same, bit_at_set_other}
use Rattle.hpb_rules.specs.Tree.{Node, terms_of, at_or_under}
use Rattle.hpb_rules.proofs.Places.{sum_has, count_yes, count_no, terms_in}
use Rattle.hpb_tree.specs.Licences.{licences_among, licence_number, IsMask}

-- the mask says which of the licences before place i are at or under node n
pub record Filled (nodes : List Node) (n i mask number : ℕ) : Type 0 where
  pub bits : (l : ℕ) → l < i → IsSome (terms_of nodes l) → bit_at mask (licence_number nodes l) ≡ cond (at_or_under nodes n l) 1 0
  pub most : mask < 2 ^ number
  pub counted : number ≡ licences_among nodes (range_with_len 0 i)

number_before : (nodes : List Node) (l i : ℕ) → IsSome (terms_of nodes l) → l < i → licence_number nodes l < licences_among nodes (range_with_len 0 i)
number_before nodes l i some h =
    let one : cond {A = ℕ} (is_some (terms_of nodes l)) 1 0 ≡ 1 = ap (λ b. cond {A = ℕ} b 1 0) some in
    omega (arith, sum_has (λ n. cond {A = ℕ} (is_some (terms_of nodes n)) 1 0) l i h)

pub filled_none : (nodes : List Node) (n : ℕ) → Filled nodes n 0 0 0
filled_none nodes n = record { bits = λ l h some. absurd (omega arith); most = lit< tt; counted = refl }

pub filled_all : (nodes : List Node) (n i mask number : ℕ) → i ≡ length nodes → Filled nodes n i mask number → IsMask nodes n mask
filled_all nodes n i mask number e f = record {
  bits = λ l some. f.bits l (omega (arith, terms_in nodes l some)) some;
  most = subst (λ k. mask < 2 ^ k) (f.counted ∙ ap (λ k. licences_among nodes (range_with_len 0 k)) e) f.most;
}

shifted : (k : ℕ) → k < 64 → 1 * 2 ^ k % 2 ^ bits w64 ≡ 2 ^ k
shifted k h = (let one : 1 * 2 ^ k ≡ 2 ^ k = omega arith in ap (λ x. x % 2 ^ bits w64) one) ∙ mod-eq_of_lt (pow-lt h)

module _ (nodes : List Node) (n i mask number : ℕ) (f : Filled nodes n i mask number) where
  -- a package is passed over
  pub filled_package : is_some (terms_of nodes i) ≡ false → Filled nodes n (i + 1) mask number
  filled_package none = record {
    bits = λ l h some. ⊎_elim (λ less. f.bits l less some) (λ late. absurd (not_here l h late some)) (cases_lt l i);
    most = f.most;
    counted = count_no (λ m. is_some (terms_of nodes m)) i number none f.counted;
  }
    where
      not_here : (l : ℕ) → l < i + 1 → i ≤ l → IsSome (terms_of nodes l) → ⊥
      not_here l h late some = let same : l ≡ i = omega arith in both_ways _ none (subst (λ m. is_some (terms_of nodes m) ≡ true) same some)

  -- a licence that isn't at or under the node keeps its bit clear
  pub filled_other : is_some (terms_of nodes i) ≡ true → at_or_under nodes n i ≡ false → Filled nodes n (i + 1) mask (number + 1)
  filled_other some_here apart = record {
    bits = λ l h some. ⊎_elim (λ less. f.bits l less some) (λ late. let same : l ≡ i = omega arith in subst (λ m. bit_at mask (licence_number nodes m) ≡ cond (at_or_under nodes n m) 1 0) (sym same) here) (cases_lt l i);
    most = let k : number < number + 1 = omega arith in let grows : 2 ^ number < 2 ^ (number + 1) = pow-lt k in omega (arith, f.most);
    counted = count_yes (λ m. is_some (terms_of nodes m)) i number some_here f.counted;
  }
    where
      here : bit_at mask (licence_number nodes i) ≡ cond (at_or_under nodes n i) 1 0
      here = bit_at_above mask number (licence_number nodes i) f.most (omega (arith, f.counted)) ∙ sym (ap (λ b. cond {A = ℕ} b 1 0) apart)

  -- a licence that is gets its bit
  pub filled_own : number < 64 → is_some (terms_of nodes i) ≡ true → at_or_under nodes n i ≡ true → Filled nodes n (i + 1) (bit_or mask (1 * 2 ^ number % 2 ^ bits w64)) (number + 1)
  filled_own few some_here under = record {
    bits = λ l h some. ⊎_elim
        (λ less. bit_at_set_other w64 mask number few (licence_number nodes l) (λ same. omega (arith, same, f.counted, number_before nodes l i some less)) ∙ f.bits l less some)
        (λ late. let same : l ≡ i = omega arith in subst (λ m. bit_at (bit_or mask (1 * 2 ^ number % 2 ^ bits w64)) (licence_number nodes m) ≡ cond (at_or_under nodes n m) 1 0) (sym same) here)
        (cases_lt l i);
    most =
        let k : number < number + 1 = omega arith in
        let grows : 2 ^ number < 2 ^ (number + 1) = pow-lt k in
        or_lt (number + 1) mask (1 * 2 ^ number % 2 ^ bits w64) (omega (arith, f.most)) (omega (arith, shifted number few));
    counted = count_yes (λ m. is_some (terms_of nodes m)) i number some_here f.counted;
  }
    where
      here : bit_at (bit_or mask (1 * 2 ^ number % 2 ^ bits w64)) (licence_number nodes i) ≡ cond (at_or_under nodes n i) 1 0
      here = ap (bit_at (bit_or mask (1 * 2 ^ number % 2 ^ bits w64))) (sym f.counted) ∙ bit_at_set_same w64 mask number few ∙ sym (ap (λ b. cond {A = ℕ} b 1 0) under)
