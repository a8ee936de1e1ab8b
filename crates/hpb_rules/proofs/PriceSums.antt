-- The prices of the licences below a test sum to the values and the dollars carried down.
use Rattle.std.proofs.Common.{◌≡◌, ℕ, zero, suc, ◌+◌, ◌-◌, ◌<◌, Bool, true, false, cond, ◌&&◌, eqb, List, [], ◌∷◌, Option, Some, None, length, drop, max, refl, sym, ap, ◌∙◌, ⊎_elim, arith, subst}
use Rattle.std.specs.Prelude.{IsSome}
use Rattle.std.specs.List.{sum_by, range_with_len}
use Rattle.std.proofs.Math.Numerals.{add-one}
use Rattle.std.proofs.lemmas.Bool.{eqb-true, cases_Bool}
use Rattle.std.proofs.lemmas.List.Sums.{sum_by-cons}
use Rattle.hpb_rules.specs.declared.licence.Terms.{Terms}
use Rattle.hpb_rules.specs.Tree.{Node, parent_of, terms_of, IsTree}
use Rattle.hpb_rules.specs.Choices.{total, is_node, is_top, values_from, best, answer_at, revenue_from}
use Rattle.hpb_rules.specs.Prices.{of_package, surplus, carried, licence_price}
use Rattle.hpb_rules.proofs.Sums.{Test, member, Below, below_is, below_suc, summed, summed_answer_at}
use Rattle.hpb_rules.proofs.Under.{From, from_tail, parent_in}
use Rattle.hpb_rules.proofs.Winners.{best_is, from_drop}
use Rattle.hpb_rules.proofs.Carried.{carry_from, carried_top, passed_all}

abbrev pub flag : Option Terms → Bool
flag None = false
flag (Some t) = true

abbrev pub flags : List Node → List Bool
flags [] = []
flags (n ∷ ns) = flag n.terms ∷ flags ns

pub terms_drop : (ns : List Node) (i : ℕ) (n : Node) (rest : List Node) → drop i ns ≡ n ∷ rest → terms_of ns i ≡ n.terms
terms_drop [] zero n rest e = cc
terms_drop [] (suc i) n rest e = cc
terms_drop (x ∷ ns) zero n rest e = cc
terms_drop (x ∷ ns) (suc i) n rest e = terms_drop ns i n rest e

pub drop_tail : (ns : List Node) (i : ℕ) (n : Node) (rest : List Node) → drop i ns ≡ n ∷ rest → drop (suc i) ns ≡ rest
drop_tail [] zero n rest e = cc
drop_tail [] (suc i) n rest e = cc
drop_tail (x ∷ ns) zero n rest e = cc
drop_tail (x ∷ ns) (suc i) n rest e = drop_tail ns i n rest e

pub in_range : (ns : List Node) (i : ℕ) (n : Node) (rest : List Node) → drop i ns ≡ n ∷ rest → i < length ns
in_range [] zero n rest e = cc
in_range [] (suc i) n rest e = cc
in_range (x ∷ ns) zero n rest e = omega arith
in_range (x ∷ ns) (suc i) n rest e = omega (arith, in_range ns i n rest e)

pub total_none : (i : ℕ) (ns : List Node) (vs : List ℕ) → ((k : ℕ) → parent_of ns k ≡ Some i → ⊥) → total (is_node i) ns vs ≡ 0
total_none i [] vs h = refl
total_none i (n ∷ ns) [] h = refl
total_none i (n ∷ ns) (v ∷ vs) h = omega (arith, one n.parent (h zero), total_none i ns vs (λ k. h (suc k)))
  where
    one : (c : Option ℕ) → (c ≡ Some i → ⊥) → cond (is_node i c) v 0 ≡ ◌+◌ 0 0
    one None e = omega arith
    one (Some p) e = ⊎_elim (λ same. absurd (e (ap Some (eqb-true p i same)))) (λ other. ap (λ t. cond t v 0) other ∙ omega arith) (cases_Bool (eqb p i))

pub length_flags : (ns : List Node) → length (flags ns) ≡ length ns
length_flags [] = refl
length_flags (n ∷ ns) = ap suc (length_flags ns)

-- the term of one node in a sum over licences
abbrev pub term : Option Terms → Bool → ℕ → ℕ
term t b x = elim t [ None ↦ 0 | Some u ↦ cond b x 0 ]

-- the part below a test, and the sum over the licences that another test passes
pub part_eq : (nodes : List Node) (p : ℕ → Bool) (f : ℕ → ℕ) (i : ℕ) (ns : List Node) (q : Test) → drop i nodes ≡ ns → ((k : ℕ) → k < length ns → member i q ns k ≡ p (i + k))
    → summed f i q ns (flags ns) ≡ sum_by (λ l. term (terms_of nodes l) (p l) (f l)) (range_with_len i (length ns))
part_eq nodes p f i [] q e h = refl
part_eq nodes p f i (n ∷ ns) q e h =
    let g : ℕ → ℕ = λ l. term (terms_of nodes l) (p l) (f l) in
    let rest : summed f (suc i) (answer_at q i (q n.parent)) ns (flags ns) ≡ sum_by g (range_with_len (suc i) (length ns))
    = part_eq nodes p f (suc i) ns (answer_at q i (q n.parent)) (drop_tail nodes i n ns e) (λ k l. h (suc k) (omega arith) ∙ ap p (omega arith)) in
    let here : q n.parent ≡ p i = h zero (omega arith) ∙ ap p (omega arith) in
    let first : cond (q n.parent && flag n.terms) (f i) 0 ≡ term (terms_of nodes i) (p i) (f i)
    = ap (λ t. cond (t && flag n.terms) (f i) 0) here ∙ one n.terms (p i) ∙ ap (λ t. term t (p i) (f i)) (sym (terms_drop nodes i n ns e)) in
    let next : sum_by g (range_with_len (i + 1) (length ns)) ≡ sum_by g (range_with_len (suc i) (length ns)) = ap (λ a. sum_by g (range_with_len a (length ns))) (add-one i) in
    omega (arith, rest, first, next, sum_by-cons g i (range_with_len (i + 1) (length ns)))
  where
    one : (t : Option Terms) (b : Bool) → cond (b && flag t) (f i) 0 ≡ term t b (f i)
    one None true = refl
    one None false = refl
    one (Some x) true = refl
    one (Some x) false = refl

-- all licences
pub all_eq : (nodes : List Node) (f : ℕ → ℕ) (i : ℕ) (ns : List Node) → drop i nodes ≡ ns → revenue_from i f (flags ns) ≡ sum_by (λ l. term (terms_of nodes l) true (f l)) (range_with_len i (length ns))
all_eq nodes f i [] e = refl
all_eq nodes f i (n ∷ ns) e =
    let g : ℕ → ℕ = λ l. term (terms_of nodes l) true (f l) in
    let rest : revenue_from (suc i) f (flags ns) ≡ sum_by g (range_with_len (suc i) (length ns)) = all_eq nodes f (suc i) ns (drop_tail nodes i n ns e) in
    let first : cond (flag n.terms) (f i) 0 ≡ term (terms_of nodes i) true (f i) = one n.terms ∙ ap (λ t. term t true (f i)) (sym (terms_drop nodes i n ns e)) in
    let next : sum_by g (range_with_len (i + 1) (length ns)) ≡ sum_by g (range_with_len (suc i) (length ns)) = ap (λ a. sum_by g (range_with_len a (length ns))) (add-one i) in
    omega (arith, rest, first, next, sum_by-cons g i (range_with_len (i + 1) (length ns)))
  where
    one : (t : Option Terms) → cond (flag t) (f i) 0 ≡ term t true (f i)
    one None = refl
    one (Some x) = refl

-- a range in two pieces
pub range_split : (g : ℕ → ℕ) (a m k : ℕ) → sum_by g (range_with_len a (m + k)) ≡ sum_by g (range_with_len a m) + sum_by g (range_with_len (a + m) k)
range_split g a zero k = let x : a + 0 ≡ a = omega arith in let y : 0 + k ≡ k = omega arith in omega (arith, ap (λ j. sum_by g (range_with_len j k)) x, ap (λ j. sum_by g (range_with_len a j)) y)
range_split g a (suc m) k =
    let x : (a + 1) + m ≡ a + suc m = omega arith in
    let y : suc (m + k) ≡ suc m + k = omega arith in
    omega (arith, range_split g (a + 1) m k, ap (λ j. sum_by g (range_with_len j k)) x, ap (λ j. sum_by g (range_with_len a j)) y, sum_by-cons g a (range_with_len (a + 1) (m + k)), sum_by-cons g a (range_with_len (a + 1) m))

module _ (nodes : List Node) (bid : ℕ → ℕ) (tree : IsTree nodes) where
  step : (qp : Bool) (t : Option Terms) (b c inside_values inside_carried s inside u w : ℕ) → (IsSome t → inside_values ≡ 0) → (IsSome t → inside_carried ≡ 0) → (t ≡ None → inside_carried ≡ c + (b - inside_values)) → inside ≡ inside_values + inside_carried → s ≡ u + w
      → cond (qp && flag t) (b + c) 0 + (s + cond qp inside 0) ≡ (cond qp (max b inside_values) 0 + u) + (cond qp c 0 + w)
  step true None b c inside_values inside_carried s inside u w x y z e f = omega (arith, z refl)
  step true (Some t) b c inside_values inside_carried s inside u w x y z e f = omega (arith, x refl, y refl)
  step false t b c inside_values inside_carried s inside u w x y z e f = omega arith

  pub prices_sum : (i : ℕ) (ns : List Node) → drop i nodes ≡ ns → (q : Test) → Below q i → summed (licence_price nodes bid) i q ns (flags ns) ≡ total q ns (values_from i ns bid) + total q ns (carry_from nodes bid tree i ns)
  prices_sum i [] e q h = omega arith
  prices_sum i (n ∷ ns) e q h =
      let r : drop (suc i) nodes ≡ ns = drop_tail nodes i n ns e in
      let l : i < length nodes = in_range nodes i n ns e in
      let t : terms_of nodes i ≡ n.terms = terms_drop nodes i n ns e in
      let f : From nodes tree (suc i) ns = subst (λ xs. From nodes tree (suc i) xs) r (from_drop bid nodes tree (suc i) l) in
      let T : ℕ = total (is_node i) ns (values_from (suc i) ns bid) in
      let C : ℕ = total (is_node i) ns (carry_from nodes bid tree (suc i) ns) in
      let leaf : IsSome n.terms → (k : ℕ) → parent_of ns k ≡ Some i → ⊥ = λ some k u. absurd (leaf_has_none n.terms some (sym t ∙ tree.packages (suc i + k) i (f.parents k ∙ u))) in
      rw (summed_answer_at (licence_price nodes bid) i q (q n.parent) ns (flags ns) h)
      (step (q n.parent) n.terms (bid i) (carried nodes bid i) T C (summed (licence_price nodes bid) (suc i) q ns (flags ns)) (summed (licence_price nodes bid) (suc i) (is_node i) ns (flags ns)) (total q ns (values_from (suc i) ns bid)) (total q ns (carry_from nodes bid tree (suc i) ns))
      (λ some. total_none i ns (values_from (suc i) ns bid) (leaf some))
      (λ some. total_none i ns (carry_from nodes bid tree (suc i) ns) (leaf some))
      (λ none.
      let m : (m : ℕ) × (parent_of nodes m ≡ Some i) = tree.children i l (t ∙ none) in
      let a : total (is_node i) (drop (suc i) nodes) (carry_from nodes bid tree (suc i) (drop (suc i) nodes)) ≡ carried nodes bid i + surplus nodes bid i = passed_all nodes bid tree i m.0 m.1 (parent_in nodes m.0 i m.1) l in
      let b : total (is_node i) ns (carry_from nodes bid tree (suc i) ns) ≡ carried nodes bid i + surplus nodes bid i = subst (λ xs. total (is_node i) xs (carry_from nodes bid tree (suc i) xs) ≡ carried nodes bid i + surplus nodes bid i) r a in
      let g : surplus nodes bid i ≡ bid i - best nodes bid i = ap (λ x. of_package x (bid i - best nodes bid i)) (t ∙ none) in
      let v : best nodes bid i ≡ total (is_node i) ns (values_from (suc i) ns bid) = subst (λ xs. best nodes bid i ≡ total (is_node i) xs (values_from (suc i) xs bid)) r (best_is bid nodes tree i l) in
      omega arith)
      (prices_sum (suc i) ns r (is_node i) (below_is i))
      (prices_sum (suc i) ns r q (below_suc q i h)))
    where
      leaf_has_none : (t : Option Terms) → IsSome t → t ≡ None → ⊥
      leaf_has_none None s e = cc
      leaf_has_none (Some x) s e = cc

  pub total_carried : (i : ℕ) (ns : List Node) → From nodes tree i ns → total is_top ns (carry_from nodes bid tree i ns) ≡ 0
  total_carried i [] f = refl
  total_carried i (n ∷ ns) f =
      let here : parent_of nodes i ≡ n.parent = ap (parent_of nodes) (let z : i ≡ i + 0 = omega arith in z) ∙ f.parents 0 in
      omega (arith, one n.parent here, total_carried (suc i) ns (from_tail nodes tree i n ns f))
    where
      one : (c : Option ℕ) → parent_of nodes i ≡ c → cond (is_top c) (carried nodes bid i) 0 ≡ ◌+◌ 0 0
      one None e = carried_top nodes bid tree i e ∙ omega arith
      one (Some p) e = omega arith
