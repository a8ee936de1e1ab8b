-- The way up from a node in a tree whose parents each stand before their children.
use Rattle.std.proofs.Common.{◌≡◌, ℕ, zero, suc, ◌<◌, ◌≤◌, true, false, ◌||◌, eqb, List, length, Option, Some, None, refl, sym, ap, ◌∙◌, subst, arith}
use Rattle.std.proofs.lemmas.Bool.{leb-false, eq-eqb, ne_eqb}
use Rattle.hpb_rules.specs.Drafts.{is_late, has_late_parent}
use Rattle.hpb_rules.specs.Tree.{Node, parent_of, at_parent, at_or_under, at_or_under_within}
use Rattle.hpb_rules.proofs.Above.{parent_in}
use Rattle.hpb_rules.proofs.Depths.{Ordered, first_on_top}
use Rattle.hpb_rules.proofs.Places.{none_at}
use Rattle.hpb_rules.proofs.Lists.{or_false}

pub ordered : (nodes : List Node) → has_late_parent nodes ≡ false → Ordered nodes
ordered nodes h = record {
  before = λ m p e.
      let here : is_late m (parent_of nodes m) ≡ false = none_at (λ n. is_late n (parent_of nodes n)) (length nodes) m h (parent_in nodes m p e) in
      leb-false m p (rw e at here);
}

pub parent_within : (nodes : List Node) → Ordered nodes → (m p : ℕ) → m < length nodes → parent_of nodes m ≡ Some p → p < length nodes
parent_within nodes o m p h e = omega (arith, o.before m p e)

module _ (nodes : List Node) (o : Ordered nodes) where
  under_enough : (k j n m : ℕ) → m ≤ k → m ≤ j → at_or_under_within nodes k n m ≡ at_or_under_within nodes j n m
  under_enough zero zero n m a b = refl
  under_enough zero (suc j) n m a b =
      let z : m ≡ 0 = omega arith in
      subst (λ x. eqb n x ≡ at_or_under_within nodes (suc j) n x) (sym z) (sym (ap (λ c. eqb n 0 || at_parent c (at_or_under_within nodes j n)) (first_on_top nodes o) ∙ or_false (eqb n 0)))
  under_enough (suc k) zero n m a b =
      let z : m ≡ 0 = omega arith in
      subst (λ x. at_or_under_within nodes (suc k) n x ≡ eqb n x) (sym z) (ap (λ c. eqb n 0 || at_parent c (at_or_under_within nodes k n)) (first_on_top nodes o) ∙ or_false (eqb n 0))
  under_enough (suc k) (suc j) n m a b = ap (λ x. eqb n m || x) (by (under_enough k j n) (parent_of nodes m) refl)
    where
      by : ((p : ℕ) → p ≤ k → p ≤ j → at_or_under_within nodes k n p ≡ at_or_under_within nodes j n p) → (c : Option ℕ) → parent_of nodes m ≡ c → at_parent c (at_or_under_within nodes k n) ≡ at_parent c (at_or_under_within nodes j n)
      by rec None e = refl
      by rec (Some p) e = let lt : p < m = o.before m p e in rec p (omega arith) (omega arith)

  once_more : (n m : ℕ) → at_or_under nodes n m ≡ (eqb n m || at_parent (parent_of nodes m) (at_or_under_within nodes m n))
  once_more n m = under_enough m (suc m) n m (omega arith) (omega arith)

  pub under_itself : (n m : ℕ) → n ≡ m → true ≡ at_or_under nodes n m
  under_itself n m e = sym (once_more n m ∙ ap (λ b. b || at_parent (parent_of nodes m) (at_or_under_within nodes m n)) (eq-eqb n m e))

  pub under_top : (n m : ℕ) → (n ≡ m → ⊥) → parent_of nodes m ≡ None → false ≡ at_or_under nodes n m
  under_top n m other e = sym (once_more n m ∙ ap (λ b. b || at_parent (parent_of nodes m) (at_or_under_within nodes m n)) (ne_eqb n m other) ∙ ap (λ c. at_parent c (at_or_under_within nodes m n)) e)

  pub under_parent : (n m p : ℕ) → (n ≡ m → ⊥) → parent_of nodes m ≡ Some p → at_or_under nodes n p ≡ at_or_under nodes n m
  under_parent n m p other e =
      let lt : p < m = o.before m p e in
      under_enough p m n p (omega arith) (omega arith)
      ∙ sym (once_more n m ∙ ap (λ b. b || at_parent (parent_of nodes m) (at_or_under_within nodes m n)) (ne_eqb n m other) ∙ ap (λ c. at_parent c (at_or_under_within nodes m n)) e)
