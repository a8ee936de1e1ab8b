-- The place of a node among its parent's children.
use Rattle.std.proofs.Common.{◌≡◌, ℕ, zero, suc, ◌+◌, ◌-◌, ◌<◌, ◌≤◌, cond, eqb, List, Option, Some, None, length, refl, sym, ap, ◌∙◌, ⊎_elim, arith}
use Rattle.std.specs.List.{range_with_len}
use Rattle.std.proofs.Math.Numerals.{add-one}
use Rattle.std.proofs.lemmas.Bool.{eq-eqb, eqb-true, cases_Bool}
use Rattle.hpb_rules.specs.Tree.{Node, parent_of, IsTree, places}
use Rattle.hpb_rules.specs.Choices.{is_node}
use Rattle.hpb_rules.specs.Prices.{children_among}
use Rattle.hpb_rules.proofs.Places.{sum_more}
use Rattle.hpb_rules.proofs.Under.{parent_in}

module _ (nodes : List Node) where
  -- how many children of p stand before place n
  abbrev pub before : ℕ → ℕ → ℕ
  before p n = children_among nodes p (range_with_len 0 n)

  pub before_more : (p n : ℕ) → before p (suc n) ≡ before p n + cond (is_node p (parent_of nodes n)) 1 0
  before_more p n = ap (before p) (sym (add-one n)) ∙ sum_more (λ m. cond (is_node p (parent_of nodes m)) 1 0) n

  pub before_grows : (p a b : ℕ) → before p a ≤ before p (a + b)
  before_grows p a zero = let e : a ≡ a + 0 = omega arith in omega (arith, ap (before p) e)
  before_grows p a (suc b) = let e : suc (a + b) ≡ a + suc b = omega arith in omega (arith, before_grows p a b, before_more p (a + b), ap (before p) e)

  -- one more after a child
  pub before_child : (p n : ℕ) → parent_of nodes n ≡ Some p → before p (suc n) ≡ suc (before p n)
  before_child p n e =
      let one : cond (is_node p (parent_of nodes n)) 1 0 ≡ ◌+◌ 1 0 = ap (λ c. cond (is_node p c) 1 0) e ∙ ap (λ t. cond t 1 0) (eq-eqb p p refl) ∙ omega arith in
      omega (arith, before_more p n, one)

  -- a child's rank is below the number of its parent's children
  pub rank_lt : (p n : ℕ) → parent_of nodes n ≡ Some p → children_among nodes p (range_with_len 0 n) < children_among nodes p (places nodes)
  rank_lt p n e =
      let h : n < length nodes = parent_in nodes n p e in
      let j : suc n + (length nodes - suc n) ≡ length nodes = omega arith in
      omega (arith, before_child p n e, before_grows p (suc n) (length nodes - suc n), ap (before p) j)

  -- no child of p stands up to p
  pub none_before : IsTree nodes → (p n : ℕ) → n ≤ suc p → before p n ≡ 0
  none_before tree p zero h = refl
  none_before tree p (suc n) h = omega (arith, before_more p n, none_before tree p n (omega arith), late (parent_of nodes n) refl)
    where
      late : (c : Option ℕ) → parent_of nodes n ≡ c → cond (is_node p c) 1 0 ≡ ◌+◌ 0 0
      late None e = omega arith
      late (Some q) e = ⊎_elim
          (λ same. absurd (omega (arith, eqb-true q p same, tree.parents n q e)))
          (λ other. ap (λ t. cond t 1 0) other ∙ omega arith)
          (cases_Bool (eqb q p))
