-- Going up from a node meets exactly the nodes that it is at or under.
use Rattle.std.proofs.Common.{◌≡◌, ℕ, zero, suc, ◌<◌, ◌≤◌, true, false, ◌||◌, List, Option, Some, None, refl, ap, ◌∙◌, ⊎_elim, arith, subst}
use Rattle.std.proofs.lemmas.Bool.{eq-eqb, eqb-true, or_right, or_cases, both_ways, cases_Bool}
use Rattle.hpb_rules.specs.Tree.{Node, parent_of, IsTree, IsAtOrUnder, itself, child, at_or_under, at_or_under_within, at_parent}
use Rattle.hpb_rules.specs.Laws.{TestDecides, DisjointIsApart}
use Rattle.hpb_rules.proofs.Under.{under_le, not_under, disjoint_from}

module _ (nodes : List Node) where
  -- going up from m meets n only if m is at or under n
  within_sound : (k n m : ℕ) → at_or_under_within nodes k n m ≡ true → IsAtOrUnder nodes n m
  within_sound zero n m h = subst (IsAtOrUnder nodes n) (eqb-true n m h) itself
  within_sound (suc k) n m h = ⊎_elim
      (λ same. subst (IsAtOrUnder nodes n) (eqb-true n m same) itself)
      (λ up. by (within_sound k n) (parent_of nodes m) refl up)
      (or_cases _ _ h)
    where
      by : ((p : ℕ) → at_or_under_within nodes k n p ≡ true → IsAtOrUnder nodes n p) → (c : Option ℕ) → parent_of nodes m ≡ c → at_parent c (λ p. at_or_under_within nodes k n p) ≡ true → IsAtOrUnder nodes n m
      by rec None e u = absurd (both_ways false refl u)
      by rec (Some p) e u = child e (rec p u)

  pub under_sound : (n m : ℕ) → at_or_under nodes n m ≡ true → IsAtOrUnder nodes n m
  under_sound n m h = within_sound m n m h

  module _ (tree : IsTree nodes) where
    pub within_complete : (k : ℕ) {n m : ℕ} → m ≤ k → IsAtOrUnder nodes n m → at_or_under_within nodes k n m ≡ true
    within_complete zero {n = n} h itself = eq-eqb n n refl
    within_complete (suc k) {n = n} h itself = ap (λ t. t || at_parent (parent_of nodes n) (λ p. at_or_under_within nodes k n p)) (eq-eqb n n refl)
    within_complete zero h (child {node = m} {parent = p} e u) = absurd (omega (arith, tree.parents m p e))
    within_complete (suc k) {n = n} h (child {node = m} {parent = p} e u) = or_right _ _ (ap (λ c. at_parent c (λ p. at_or_under_within nodes k n p)) e ∙ within_complete k (let lt : p < m = tree.parents m p e in omega arith) u)

    pub under_complete : (n m : ℕ) → IsAtOrUnder nodes n m → at_or_under nodes n m ≡ true
    under_complete n m u = within_complete m (omega arith) u

    -- a node that stands before another is not under it
    pub not_under_earlier : (n m : ℕ) → m < n → at_or_under nodes n m ≡ false
    not_under_earlier n m h = ⊎_elim
        (λ yes. absurd (omega (arith, under_le nodes tree (under_sound n m yes))))
        (λ no. no)
        (cases_Bool (at_or_under nodes n m))

pub test_decides : TestDecides
test_decides nodes n m tree = (under_sound nodes n m, under_complete nodes tree n m)

pub disjoint_is_apart : DisjointIsApart
disjoint_is_apart nodes one other tree h k = (
  λ d. (not_under nodes tree one other k d, not_under nodes tree other one h (λ licence a b. d licence b a)),
  λ apart. disjoint_from nodes tree one other apart.0 apart.1,
)
