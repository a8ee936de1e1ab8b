-- Going up from a node to look for a winner.
use Rattle.std.proofs.Common.{◌≡◌, ℕ, suc, ◌<◌, ◌/◌, ◌^◌, List, Option, Some, None, refl, sym, ap, ◌∙◌, subst, arith, bit_and}
use Rattle.std.specs.Prelude.{IfSome}
use Rattle.std.specs.Int.{bit_at}
use Rattle.std.proofs.lemmas.Nat.Bits.{shr_and_one}
use Rattle.hpb_rules.specs.Tree.{Node, parent_of, IsAtOrUnder, itself, child, IsInside}
use Rattle.hpb_rules.proofs.Above.{under_trans}

-- the greatest number of steps to the top
abbrev pub steps_up : Option ℕ → ℕ
steps_up None = 0
steps_up (Some p) = suc p

module _ (nodes : List Node) where
  up : {m n : ℕ} → IsAtOrUnder nodes m n → (n ≡ m → ⊥) → (p : ℕ) × (parent_of nodes n ≡ Some p) × IsAtOrUnder nodes m p
  up itself other = absurd (other refl)
  up (child {parent = p} e u) other = (p, e, u)

module _ (nodes : List Node) (winners node : ℕ) where
  -- no winner was met up to here, and each winner above the node stands here or higher
  pub record Climbed (above : Option ℕ) : Type 0 where
    pub reached : (p : ℕ) → above ≡ Some p → IsAtOrUnder nodes p node × (p < node)
    pub left : (m : ℕ) → bit_at winners m ≡ 1 → IsInside nodes m node → (p : ℕ) × (above ≡ Some p) × IsAtOrUnder nodes m p

  before_of : {n : ℕ} {above : Option ℕ} {p : ℕ} → above ≡ Some p → IfSome above (λ q. q < n) → p < n
  before_of {n = n} e h = subst (λ o. IfSome o (λ q. q < n)) e h

  pub climbed_start : {above : Option ℕ} → above ≡ parent_of nodes node → IfSome above (λ q. q < node) → Climbed above
  climbed_start e before = record {
    reached = λ p some. (child (sym e ∙ some) itself, before_of some before);
    left = λ m bit inside. let step : (p : ℕ) × (parent_of nodes node ≡ Some p) × IsAtOrUnder nodes m p = up nodes inside.0 inside.1 in (step.0, e ∙ step.1, step.2);
  }

  module _ {above : Option ℕ} {p : ℕ} (so_far : Climbed above) (some : above ≡ Some p) where
    pub within : p < node
    within = (so_far.reached p some).1

    pub climbed_more : {q : ℕ} → q ≡ p → (bit_and (winners / 2 ^ q) 1 ≡ 1 → ⊥) → {next : Option ℕ} → next ≡ parent_of nodes p → IfSome next (λ r. r < p) → Climbed next
    climbed_more {q = k} at missed e before = record {
      reached = λ q here. let less : q < p = before_of here before in (under_trans nodes (child (sym e ∙ here) itself) (so_far.reached p some).0, omega (arith, within));
      left = λ m bit inside.
          let last : (r : ℕ) × (above ≡ Some r) × IsAtOrUnder nodes m r = so_far.left m bit inside in
          let same : last.0 ≡ p = let both : Some last.0 ≡ Some p = sym last.1 ∙ some in cc in
          let step : (q : ℕ) × (parent_of nodes p ≡ Some q) × IsAtOrUnder nodes m q
          = up nodes (subst (IsAtOrUnder nodes m) same last.2) (λ met. missed (shr_and_one winners k ∙ ap (bit_at winners) (at ∙ met) ∙ bit)) in
          (step.0, e ∙ step.1, step.2);
    }
