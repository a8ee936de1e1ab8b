-- Sums over the nodes whose parent passes a test, when values change.
use Rattle.std.proofs.Common.{◌≡◌, ℕ, zero, suc, ◌+◌, ◌<◌, ◌≤◌, Bool, true, false, cond, List, [], ◌∷◌, Option, Some, None, length, get_or, set, drop, max, refl, sym, ap, ◌∙◌, ⊎_elim, arith, le_refl}
use Rattle.std.proofs.Math.Nat.{mul-le-mul}
use Rattle.std.proofs.lemmas.Bool.{cases_lt, both_ways, eqb-true, false_from_ne_true}
use Rattle.hpb_rules.specs.declared.limits.TheConstants.{MOST_AMOUNT, MOST_NODES}
use Rattle.hpb_rules.specs.Tree.{Node, parent_of, IsTree}
use Rattle.hpb_rules.specs.Choices.{is_node, is_top, total, values_from, bests_from, best}
use Rattle.hpb_rules.proofs.Loops.{Test, below_is, sum_is, sum_all, best_from, sum_bound}
use Rattle.hpb_winners.specs.declared.outcome.TheConstants.{MOST_VALUE}
use Rattle.hpb_winners.specs.Along.{greatest_values}

-- ---- how one sum compares with another

total_none : (q : Test) (ns : List Node) → total q ns [] ≡ 0
total_none q [] = refl
total_none q (n ∷ ns) = refl

cond_le : (b : Bool) (u v : ℕ) → (b ≡ true → u ≤ v) → cond b u 0 ≤ cond b v 0
cond_le true u v h = h refl
cond_le false u v h = omega arith

-- a sum depends only on the values of nodes whose parent passes
pub total_le : (q : Test) (ns : List Node) (us vs : List ℕ) → ((k : ℕ) → k < length ns → q (parent_of ns k) ≡ true → get_or us k 0 ≤ get_or vs k 0) → total q ns us ≤ total q ns vs
total_le q [] us vs h = omega arith
total_le q (n ∷ ns) [] vs h = omega arith
total_le q (n ∷ ns) (u ∷ us) [] h = omega (arith, cond_le (q n.parent) u 0 (h zero (omega arith)), cond_le (q n.parent) 0 0 (λ e. omega arith), total_le q ns us [] (λ k l. h (suc k) (omega arith)), total_none q ns, nothing (q n.parent))
  where
    nothing : (b : Bool) → cond {A = ℕ} b 0 0 ≡ 0
    nothing true = refl
    nothing false = refl
total_le q (n ∷ ns) (u ∷ us) (v ∷ vs) h = omega (arith, cond_le (q n.parent) u v (h zero (omega arith)), total_le q ns us vs (λ k l. h (suc k) (omega arith)))

pub total_same : (q : Test) (ns : List Node) (us vs : List ℕ) → ((k : ℕ) → k < length ns → q (parent_of ns k) ≡ true → get_or us k 0 ≡ get_or vs k 0) → total q ns us ≡ total q ns vs
total_same q ns us vs h = omega (arith, total_le q ns us vs (λ k l e. omega (arith, h k l e)), total_le q ns vs us (λ k l e. omega (arith, h k l e)))

-- if one value changes, a sum changes by the difference or not at all
pub total_set : (q : Test) (ns : List Node) (vs : List ℕ) (i x : ℕ) → i < length ns → i < length vs
    → total q ns (set vs i x) + cond (q (parent_of ns i)) (get_or vs i 0) 0 ≡ total q ns vs + cond (q (parent_of ns i)) x 0
total_set q [] vs i x h k = absurd (omega arith)
total_set q (n ∷ ns) [] i x h k = absurd (omega arith)
total_set q (n ∷ ns) (v ∷ vs) zero x h k = omega arith
total_set q (n ∷ ns) (v ∷ vs) (suc i) x h k = omega (arith, total_set q ns vs i x (omega arith) (omega arith))

-- a value is at most the sum in which it counts
pub total_part : (q : Test) (ns : List Node) (vs : List ℕ) (i : ℕ) → i < length ns → i < length vs → cond (q (parent_of ns i)) (get_or vs i 0) 0 ≤ total q ns vs
total_part q [] vs i h k = absurd (omega arith)
total_part q (n ∷ ns) [] i h k = absurd (omega arith)
total_part q (n ∷ ns) (v ∷ vs) zero h k = omega arith
total_part q (n ∷ ns) (v ∷ vs) (suc i) h k = omega (arith, total_part q ns vs i (omega arith) (omega arith))

-- ---- the values that bids give

value_at : (bid : ℕ → ℕ) (j : ℕ) (ns : List Node) (k : ℕ) → k < length ns → get_or (values_from j ns bid) k 0 ≡ max (bid (j + k)) (get_or (bests_from j ns bid) k 0)
value_at bid j [] k h = absurd (omega arith)
value_at bid j (n ∷ ns) zero h = ap (λ m. max (bid m) (total (is_node j) ns (values_from (suc j) ns bid))) (let e : j ≡ j + 0 = omega arith in e)
value_at bid j (n ∷ ns) (suc k) h = value_at bid (suc j) ns k (omega arith) ∙ ap (λ m. max (bid m) (get_or (bests_from (suc j) ns bid) k 0)) (let e : suc j + k ≡ j + suc k = omega arith in e)

-- the first nodes add nothing if their parents don't pass
total_later : (q : Test) (bid : ℕ → ℕ) (j i : ℕ) (ns : List Node) → ((k : ℕ) → k < i → q (parent_of ns k) ≡ false) → total q ns (values_from j ns bid) ≡ total q (drop i ns) (values_from (j + i) (drop i ns) bid)
total_later q bid j zero ns h = ap (λ m. total q ns (values_from m ns bid)) (let e : j ≡ j + 0 = omega arith in e)
total_later q bid j (suc i) [] h = refl
total_later q bid j (suc i) (n ∷ ns) h =
    ap (λ b. cond b (max (bid j) (total (is_node j) ns (values_from (suc j) ns bid))) 0 + total q ns (values_from (suc j) ns bid)) (h zero (omega arith))
    ∙ nothing_more (total q ns (values_from (suc j) ns bid))
    ∙ total_later q bid (suc j) i ns (λ k l. h (suc k) (omega arith))
    ∙ ap (λ m. total q (drop i ns) (values_from m (drop i ns) bid)) (let e : suc j + i ≡ j + suc i = omega arith in e)
  where
    nothing_more : (t : ℕ) → 0 + t ≡ t
    nothing_more t = omega arith

module _ (nodes : List Node) where
  pub value_is : (bid : ℕ → ℕ) (n : ℕ) → n < length nodes → get_or (values_from 0 nodes bid) n 0 ≡ max (bid n) (best nodes bid n)
  value_is bid n h = value_at bid 0 nodes n h ∙ ap (λ m. max (bid m) (best nodes bid n)) (let e : 0 + n ≡ n = omega arith in e)

  module _ (tree : IsTree nodes) where
    -- a node that counts in the sum inside another stands behind it
    pub child_after : (n k : ℕ) → is_node n (parent_of nodes k) ≡ true → n < k
    child_after n k e = by (parent_of nodes k) refl e
      where
        by : (c : Option ℕ) → parent_of nodes k ≡ c → is_node n c ≡ true → n < k
        by None up is = absurd (both_ways false refl is)
        by (Some p) up is = omega (arith, eqb-true p n is, tree.parents k p up)

    pub best_is : (bid : ℕ → ℕ) (n : ℕ) → n < length nodes → best nodes bid n ≡ total (is_node n) nodes (values_from 0 nodes bid)
    best_is bid n h =
        best_from nodes bid n h ∙ sum_is nodes bid (suc n) (is_node n)
        ∙ ap (λ m. total (is_node n) (drop (suc n) nodes) (values_from m (drop (suc n) nodes) bid)) (let e : suc n ≡ 0 + suc n = omega arith in e)
        ∙ sym (total_later (is_node n) bid 0 (suc n) nodes (λ k l. false_from_ne_true (is_node n (parent_of nodes k)) (λ e. omega (arith, child_after n k e))))

    -- ---- if each value is the greater of the node's bid and the sum of its children's values, all are the values of
    -- ---- the bids
    module _ (bid : ℕ → ℕ) (values : List ℕ) (right : (n : ℕ) → n < length nodes → get_or values n 0 ≡ max (bid n) (total (is_node n) nodes values)) where
      right_from : (k i : ℕ) → i + k ≡ length nodes → (n : ℕ) → i ≤ n → n < length nodes → get_or values n 0 ≡ get_or (values_from 0 nodes bid) n 0
      right_from zero i e n a b = absurd (omega arith)
      right_from (suc k) i e n a b = ⊎_elim
          (λ later. right_from k (suc i) (omega arith) n (omega arith) b)
          (λ le. let same : n ≡ i = omega arith in
          right n b
          ∙ ap (max (bid n)) (total_same (is_node n) nodes values (values_from 0 nodes bid) (λ m l child. right_from k (suc i) (omega arith) m (omega (arith, child_after n m child)) l))
          ∙ ap (max (bid n)) (sym (best_is bid n b)) ∙ sym (value_is bid n b))
          (cases_lt i n)

      pub right_all : (n : ℕ) → n < length nodes → get_or values n 0 ≡ get_or (values_from 0 nodes bid) n 0
      right_all n h = right_from (length nodes) 0 (omega arith) n (omega arith) h

      pub right_total : (q : Test) → total q nodes values ≡ total q nodes (values_from 0 nodes bid)
      right_total q = total_same q nodes values (values_from 0 nodes bid) (λ k l e. right_all k l)

    -- ---- such values of small bids are small
    module _ (bid : ℕ → ℕ) (values : List ℕ) (amounts : (n : ℕ) → bid n ≤ MOST_AMOUNT) (right : (n : ℕ) → n < length nodes → get_or values n 0 ≡ max (bid n) (total (is_node n) nodes values)) where
      small_from : (k i : ℕ) → i + k ≡ length nodes → (n : ℕ) → i ≤ n → n < length nodes → get_or values n 0 ≤ get_or (greatest_values nodes) n 0
      small_from zero i e n a b = absurd (omega arith)
      small_from (suc k) i e n a b = ⊎_elim
          (λ later. small_from k (suc i) (omega arith) n (omega arith) b)
          (λ le. let same : n ≡ i = omega arith in
          omega (
            arith,
            right n b,
            amounts n,
            total_le (is_node n) nodes values (greatest_values nodes) (λ m l child. small_from k (suc i) (omega arith) m (omega (arith, child_after n m child)) l),
            best_is (λ m. MOST_AMOUNT) n b,
            value_is (λ m. MOST_AMOUNT) n b,
          ))
          (cases_lt i n)

      pub small_all : (n : ℕ) → n < length nodes → get_or values n 0 ≤ get_or (greatest_values nodes) n 0
      small_all n h = small_from (length nodes) 0 (omega arith) n (omega arith) h

    -- ---- a bound for values
    module _ (few : length nodes ≤ MOST_NODES) where
      pub inside_most : (n : ℕ) → n < length nodes → total (is_node n) nodes (greatest_values nodes) ≤ MOST_VALUE
      inside_most n h = omega (arith, best_is (λ m. MOST_AMOUNT) n h, best_from nodes (λ m. MOST_AMOUNT) n h, sum_bound nodes (λ m. MOST_AMOUNT) MOST_AMOUNT (suc n) (is_node n) (λ m. le_refl MOST_AMOUNT) (below_is n), mul-le-mul few (le_refl MOST_AMOUNT))

      pub top_most : total is_top nodes (greatest_values nodes) ≤ MOST_VALUE
      top_most = omega (arith, sum_all nodes (λ m. MOST_AMOUNT) is_top, sum_bound nodes (λ m. MOST_AMOUNT) MOST_AMOUNT 0 is_top (λ m. le_refl MOST_AMOUNT) (λ j le. refl), mul-le-mul few (le_refl MOST_AMOUNT))

      pub value_most : (n : ℕ) → n < length nodes → get_or (greatest_values nodes) n 0 ≤ MOST_VALUE
      value_most n h = omega (arith, value_is (λ m. MOST_AMOUNT) n h, best_is (λ m. MOST_AMOUNT) n h, inside_most n h)
