-- Forming one node's value anew.
use Rattle.std.proofs.Common.{◌≡◌, ℕ, ◌+◌, ◌-◌, ◌<◌, ◌≤◌, Bool, true, false, cond, List, Some, None, length, get_or, set, max, refl, sym, ap, ◌∙◌, ⊎_elim, arith, subst}
use Rattle.std.proofs.lemmas.Bool.{cases_eq, eq-eqb, ne_eqb}
use Rattle.std.proofs.lemmas.List.{get_or-set_other, length-set}
use Rattle.std.proofs.lemmas.Grind.{get_or-set_at}
use Rattle.hpb_rules.specs.declared.limits.TheConstants.{MOST_AMOUNT, MOST_NODES}
use Rattle.hpb_rules.specs.Tree.{Node, parent_of, IsTree}
use Rattle.hpb_rules.specs.Choices.{is_node, is_top, total}
use Rattle.hpb_rules.proofs.Loops.{Test}
use Rattle.hpb_winners.specs.declared.outcome.TheConstants.{MOST_VALUE}
use Rattle.hpb_winners.specs.View.{OutcomeView}
use Rattle.hpb_winners.specs.Along.{AreSums, AreSmall, IsOthersSum, greatest_values}
use Rattle.hpb_winners.proofs.Totals.{total_le, total_set, total_part, value_is, best_is, inside_most, top_most, value_most}

-- the new value is the greater of the node's bid and the best inside it, from sums that were right
pub record IsRenewal (nodes : List Node) (old : OutcomeView) (i newer : ℕ) : Type 0 where
  pub tree : IsTree nodes
  pub few : length nodes ≤ MOST_NODES
  pub sums : AreSums nodes old
  pub small : AreSmall nodes old
  pub within : i < length nodes
  pub high : ℕ
  pub amount : high ≤ MOST_AMOUNT
  pub is : newer ≡ max high (get_or old.inside i 0)

module _ {nodes : List Node} {old : OutcomeView} {i newer : ℕ} (renewal : IsRenewal nodes old i newer) where
  has_value : i < length old.values
  has_value = omega (arith, renewal.within, renewal.sums.count)

  pub newer_small : newer ≤ get_or (greatest_values nodes) i 0
  newer_small = omega (
    arith,
    renewal.sums.inside i renewal.within,
    total_le (is_node i) nodes old.values (greatest_values nodes) (λ k l e. renewal.small k l),
    value_is nodes (λ m. MOST_AMOUNT) i renewal.within,
    best_is nodes renewal.tree (λ m. MOST_AMOUNT) i renewal.within,
    renewal.amount,
    renewal.is,
  )

  pub newer_most : newer ≤ MOST_VALUE
  newer_most = omega (arith, newer_small, value_most nodes renewal.tree renewal.few i renewal.within)

  pub small_more : {values : List ℕ} → values ≡ set old.values i newer → (n : ℕ) → n < length nodes → get_or values n 0 ≤ get_or (greatest_values nodes) n 0
  small_more made n h = ⊎_elim
      (λ same. omega (arith, ap (λ vs. get_or vs n 0) made ∙ get_or-set_at old.values i n newer 0 (sym same) has_value, newer_small, ap (λ m. get_or (greatest_values nodes) m 0) same))
      (λ other. omega (arith, ap (λ vs. get_or vs n 0) made ∙ get_or-set_other old.values i n newer 0 (λ e. other (sym e)), renewal.small n h))
      (cases_eq i n)

  -- how a sum changes, by whether the node counts in it
  counted : (q : Test) → q (parent_of nodes i) ≡ true → total q nodes (set old.values i newer) + get_or old.values i 0 ≡ total q nodes old.values + newer
  counted q e = subst (λ b. total q nodes (set old.values i newer) + cond b (get_or old.values i 0) 0 ≡ total q nodes old.values + cond b newer 0) e (total_set q nodes old.values i newer renewal.within has_value)

  not_counted : (q : Test) → q (parent_of nodes i) ≡ false → total q nodes (set old.values i newer) ≡ total q nodes old.values
  not_counted q e = omega (arith, subst (λ b. total q nodes (set old.values i newer) + cond b (get_or old.values i 0) 0 ≡ total q nodes old.values + cond b newer 0) e (total_set q nodes old.values i newer renewal.within has_value))

  counts : (q : Test) → q (parent_of nodes i) ≡ true → get_or old.values i 0 ≤ total q nodes old.values
  counts q e = subst (λ b. cond b (get_or old.values i 0) 0 ≤ total q nodes old.values) e (total_part q nodes old.values i renewal.within has_value)

  sum_most : (q : Test) → total q nodes (set old.values i newer) ≤ total q nodes (greatest_values nodes)
  sum_most q = total_le q nodes (set old.values i newer) (greatest_values nodes) (λ k l e. small_more refl k l)

  -- for a node with a parent
  module _ {p : ℕ} (up : parent_of nodes i ≡ Some p) where
    inner : p < length nodes
    inner = omega (arith, renewal.within, renewal.tree.parents i p up)

    at : (n : ℕ) (b : Bool) → is_node n (Some p) ≡ b → is_node n (parent_of nodes i) ≡ b
    at n b e = ap (is_node n) up ∙ e

    pub part_here : get_or old.values i 0 ≤ get_or old.inside p 0
    part_here = omega (arith, counts (is_node p) (at p true (eq-eqb p p refl)), renewal.sums.inside p inner)

    pub part_most : get_or old.inside p 0 - get_or old.values i 0 + newer ≤ MOST_VALUE
    part_most = omega (arith, part_here, counted (is_node p) (at p true (eq-eqb p p refl)), sum_most (is_node p), inside_most nodes renewal.tree renewal.few p inner, renewal.sums.inside p inner)

    pub part_sums : {new : OutcomeView} → new.values ≡ set old.values i newer → new.inside ≡ set old.inside p (get_or old.inside p 0 - get_or old.values i 0 + newer) → new.revenue ≡ old.revenue → AreSums nodes new
    part_sums {new = new} v s r = record {
      insides = ap length s ∙ length-set old.inside p _ ∙ renewal.sums.insides;
      count = ap length v ∙ length-set old.values i newer ∙ renewal.sums.count;
      inside = λ n h. ⊎_elim
          (λ same. omega (
            arith,
            ap (λ xs. get_or xs n 0) s ∙ get_or-set_at old.inside p n (get_or old.inside p 0 - get_or old.values i 0 + newer) 0 (sym same) (omega (arith, renewal.sums.insides)),
            part_here,
            counted (is_node p) (at p true (eq-eqb p p refl)),
            renewal.sums.inside p inner,
            ap (λ vs. total (is_node p) nodes vs) v,
            ap (λ m. total (is_node m) nodes new.values) same,
          ))
          (λ other. ap (λ xs. get_or xs n 0) s ∙ get_or-set_other old.inside p n _ 0 (λ e. other (sym e)) ∙ renewal.sums.inside n h ∙ sym (ap (λ vs. total (is_node n) nodes vs) v ∙ not_counted (is_node n) (at n false (ne_eqb p n other))))
          (cases_eq p n);
      revenue = r ∙ renewal.sums.revenue ∙ sym (ap (λ vs. total is_top nodes vs) v ∙ not_counted is_top (ap is_top up));
    }

    pub part_others : {inside : List ℕ} (x : ℕ) → inside ≡ set old.inside p x → IsOthersSum nodes i old.inside inside
    part_others x s n other = ap (λ xs. get_or xs n 0) s ∙ get_or-set_other old.inside p n x 0 (λ e. other (up ∙ ap Some (sym e)))

  -- for a node without a parent
  module _ (top : parent_of nodes i ≡ None) where
    pub top_here : get_or old.values i 0 ≤ old.revenue
    top_here = omega (arith, counts is_top (ap is_top top), renewal.sums.revenue)

    pub top_revenue_most : old.revenue - get_or old.values i 0 + newer ≤ MOST_VALUE
    top_revenue_most = omega (arith, top_here, counted is_top (ap is_top top), sum_most is_top, top_most nodes renewal.tree renewal.few, renewal.sums.revenue)

    pub top_sums : {new : OutcomeView} → new.values ≡ set old.values i newer → new.inside ≡ old.inside → new.revenue ≡ old.revenue - get_or old.values i 0 + newer → AreSums nodes new
    top_sums {new = new} v s r = record {
      insides = ap length s ∙ renewal.sums.insides;
      count = ap length v ∙ length-set old.values i newer ∙ renewal.sums.count;
      inside = λ n h. ap (λ xs. get_or xs n 0) s ∙ renewal.sums.inside n h ∙ sym (ap (λ vs. total (is_node n) nodes vs) v ∙ not_counted (is_node n) (ap (is_node n) top));
      revenue = omega (arith, r, top_here, counted is_top (ap is_top top), renewal.sums.revenue, ap (λ vs. total is_top nodes vs) v);
    }
