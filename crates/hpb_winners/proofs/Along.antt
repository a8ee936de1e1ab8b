-- The pass from changed nodes upward: what holds once the nodes from a place on are done.
use Rattle.std.proofs.Common.{◌≡◌, ℕ, zero, suc, ◌+◌, ◌*◌, ◌%◌, ◌^◌, ◌<◌, ◌≤◌, Bool, true, false, cond, ◌&&◌, ◌||◌, List, Option, Some, None, length, get_or, set, take, max, ◌-◌, ◌⊎◌, inl, inr, refl, sym, ap, ◌∙◌, ⊎_elim, arith, subst}
use Rattle.std.specs.Prelude.{◌==◌, bit_or}
use Rattle.std.specs.List.{count_by, list_any, range_with_len}
use Rattle.std.proofs.lemmas.Bool.{cases_lt, eq-eqb, both_ways, and_parts, and_from, or_cases, or_right, eqb-true, false_from_ne_true}
use Rattle.std.proofs.lemmas.Grind.{get_or-set_at}
use Rattle.std.proofs.lemmas.List.{get_or-set_other}
use Rattle.std.proofs.lemmas.List.Folds.{list_any_at}
use Rattle.std.proofs.lemmas.List.FromFn.{length-range_with_len, get_or-range_with_len}
use Rattle.std.proofs.lemmas.List.Sums.{sum_by-cons, count_by-le-length}
use Rattle.std.proofs.lemmas.Nat.{one_shl}
use Rattle.hpb_rules.specs.declared.limits.TheConstants.{MOST_NODES}
use Rattle.hpb_rules.specs.Tree.{Node, parent_of, IsTree, IsAtOrUnder, itself, child, places, at_or_under}
use Rattle.hpb_rules.specs.Choices.{IsWinners, is_in, is_node, is_top, total, values_from, best, revenue, winners}
use Rattle.hpb_rules.specs.Saved.{has_bit}
use Rattle.hpb_rules.proofs.Above.{parent_in, under_le, under_trans, under_sound, under_complete}
use Rattle.hpb_rules.proofs.Tests.{same_answer}
use Rattle.hpb_rules.proofs.Loops.{Test, winners_all}
use Rattle.hpb_bids.proofs.History.{bit_more}
use Rattle.hpb_winners.specs.View.{OutcomeView, IsOutcome, AreParents, AreBefore, wins_of}
use Rattle.hpb_winners.specs.Along.{WasOutcome, AreSums, AreSmall, IsOthersSum, is_reached, reached_count}
use Rattle.hpb_winners.proofs.Totals.{total_same, value_is, best_is, right_all, right_total, small_all}
use Rattle.hpb_winners.proofs.Winning.{outcome_of, wins_right}

-- some node of the mask is at or under this one
abbrev pub Reached : List Node → ℕ → ℕ → Type 0
Reached nodes mask n = (m : ℕ) × (m < length nodes) × (has_bit mask m ≡ true) × IsAtOrUnder nodes n m

pub any_some : (test : ℕ → Bool) (i k : ℕ) → list_any test (range_with_len i k) ≡ true → (m : ℕ) × (m < i + k) × (test m ≡ true)
any_some test i zero e = absurd (both_ways false refl e)
any_some test i (suc k) e = ⊎_elim
    (λ here. (i, omega arith, here))
    (λ later. let r : (m : ℕ) × (m < i + 1 + k) × (test m ≡ true) = any_some test (i + 1) k later in (r.0, omega (arith, r.1), r.2))
    (or_cases (test i) (list_any test (range_with_len (i + 1) k)) e)

module _ (nodes : List Node) (bid : ℕ → ℕ) (changed : ℕ) where
  -- the nodes from place i on are done
  pub record Along (i pending : ℕ) (o : OutcomeView) : Type 0 where
    pub sums : AreSums nodes o
    pub small : AreSmall nodes o
    pub parents : AreParents nodes o.parents
    pub done : (n : ℕ) → i ≤ n → n < length nodes → get_or o.values n 0 ≡ max (bid n) (get_or o.inside n 0)
    pub left : (n : ℕ) → n < i → n < length nodes → has_bit pending n ≡ false → get_or o.values n 0 ≡ max (bid n) (get_or o.inside n 0)
    pub asked : (n : ℕ) → has_bit changed n ≡ true → has_bit pending n ≡ true
    pub up : (n p : ℕ) → i ≤ n → parent_of nodes n ≡ Some p → has_bit pending n ≡ true → has_bit pending p ≡ true
    pub reached : (n : ℕ) → n < length nodes → has_bit pending n ≡ true → Reached nodes changed n
    pub count : (m : ℕ) → i + m ≡ length nodes → o.formed ≡ count_by (is_reached nodes changed) (range_with_len i m)

  -- ---- which nodes are reached
  module _ (tree : IsTree nodes) where
    -- if each place behind one sets the bit of its parent, each place above a set bit has its own bit set
    climbs : (mask : ℕ) {i m : ℕ} → ((n p : ℕ) → suc i ≤ n → parent_of nodes n ≡ Some p → has_bit mask n ≡ true → has_bit mask p ≡ true) → IsAtOrUnder nodes i m → has_bit mask m ≡ true → has_bit mask i ≡ true
    climbs mask h itself b = b
    climbs mask {i = i} h (child {node = m} {parent = p} e u) b = climbs mask h u (h m p (omega (arith, under_le nodes tree u, tree.parents m p e)) e b)

    found : (mask n : ℕ) → is_reached nodes mask n ≡ true → Reached nodes mask n
    found mask n e =
        let some : (m : ℕ) × (m < 0 + length nodes) × ((has_bit mask m && at_or_under nodes n m) ≡ true) = any_some (λ m. has_bit mask m && at_or_under nodes n m) 0 (length nodes) e in
        let both : (has_bit mask some.0 ≡ true) × (at_or_under nodes n some.0 ≡ true) = and_parts (has_bit mask some.0) (at_or_under nodes n some.0) some.2 in
        (some.0, omega (arith, some.1), both.0, under_sound nodes n some.0 both.1)

    pub finds : (mask n : ℕ) → Reached nodes mask n → is_reached nodes mask n ≡ true
    finds mask n r =
        let at : get_or (places nodes) r.0 0 ≡ r.0 = get_or-range_with_len 0 (length nodes) r.0 0 r.1 ∙ omega arith in
        list_any_at (λ m. has_bit mask m && at_or_under nodes n m) (places nodes) r.0 0 (omega (arith, length-range_with_len 0 (length nodes), r.1))
        (ap (λ m. has_bit mask m && at_or_under nodes n m) at ∙ and_from (has_bit mask r.0) (at_or_under nodes n r.0) r.2 (under_complete nodes tree n r.0 r.3))

    -- ---- at the start no node is done
    module _ {o : OutcomeView} (was : WasOutcome nodes bid changed o) where
      was_table : (n : ℕ) → n < length nodes → get_or o.values n 0 ≡ get_or (values_from 0 nodes was.was) n 0
      was_table n h = was.outcome.values n h ∙ sym (value_is nodes was.was n h)

      was_total : (q : Test) → total q nodes (values_from 0 nodes was.was) ≡ total q nodes o.values
      was_total q = total_same q nodes (values_from 0 nodes was.was) o.values (λ k l e. sym (was_table k l))

      was_inside : (n : ℕ) → n < length nodes → get_or o.inside n 0 ≡ total (is_node n) nodes o.values
      was_inside n h = was.outcome.inside n h ∙ best_is nodes tree was.was n h ∙ was_total (is_node n)

      was_value : (n : ℕ) → n < length nodes → get_or o.values n 0 ≡ max (was.was n) (get_or o.inside n 0)
      was_value n h = was.outcome.values n h ∙ ap (max (was.was n)) (sym (was.outcome.inside n h))

      pub along_start : {begun : OutcomeView} (i : ℕ) → begun ≡ record o { formed = 0 } → i ≡ length nodes → length o.inside ≡ MOST_NODES → length o.values ≡ MOST_NODES → Along i changed begun
      along_start i b at l m = subst (λ v. Along i changed v) (sym b) (record {
        sums = record { insides = l; count = m; inside = was_inside; revenue = was.outcome.revenue ∙ winners_all was.was nodes tree ∙ was_total is_top };
        small = small_all nodes tree was.was o.values was.most (λ n h. was_value n h ∙ ap (max (was.was n)) (was_inside n h));
        parents = was.outcome.parents;
        done = λ n a h. absurd (omega arith);
        left = λ n a h bit. was_value n h ∙ ap (λ b. max b (get_or o.inside n 0)) (was.same n h bit);
        asked = λ n bit. bit;
        up = λ n p a e bit. absurd (omega (arith, parent_in nodes n p e));
        reached = λ n h bit. (n, h, bit, itself);
        count = none;
      })
        where
          none : (m : ℕ) → i + m ≡ length nodes → 0 ≡ count_by (is_reached nodes changed) (range_with_len i m)
          none zero e = refl
          none (suc m) e = absurd (omega arith)

    -- ---- the next place
    module _ {k pending : ℕ} {o : OutcomeView} (so_far : Along k pending o) (i : ℕ) (next : k ≡ suc i) (within : i < length nodes) where
      before : Along (suc i) pending o
      before = subst (λ j. Along j pending o) next so_far

      is_asked : is_reached nodes changed i ≡ has_bit pending i
      is_asked = same_answer (is_reached nodes changed i) (has_bit pending i)
          (λ e. let r : Reached nodes changed i = found changed i e in climbs pending before.up r.3 (before.asked r.0 r.2))
          (λ bit. finds changed i (before.reached i within bit))

      count_more : (b : Bool) → is_reached nodes changed i ≡ b → (m : ℕ) → i + m ≡ length nodes → cond b 1 0 + o.formed ≡ count_by (is_reached nodes changed) (range_with_len i m)
      count_more b e zero at = absurd (omega arith)
      count_more b e (suc m) at =
          omega (
            arith,
            sum_by-cons (λ n. cond {A = ℕ} (is_reached nodes changed n) 1 0) i (range_with_len (i + 1) m),
            before.count m (omega arith),
            ap (λ t. cond {A = ℕ} t 1 0) e,
            ap (λ j. count_by (is_reached nodes changed) (range_with_len j m)) (let e : suc i ≡ i + 1 = omega arith in e),
          )

      pub few : length nodes ≤ MOST_NODES → o.formed < MOST_NODES
      few most =
          let rest : suc i + (length nodes - suc i) ≡ length nodes = omega arith in
          omega (arith, before.count (length nodes - suc i) rest, count_by-le-length (is_reached nodes changed) (range_with_len (suc i) (length nodes - suc i)), length-range_with_len (suc i) (length nodes - suc i))

      -- a node that isn't reached keeps its value
      pub along_stays : has_bit pending i ≡ false → Along i pending o
      along_stays off = record {
        sums = before.sums;
        small = before.small;
        parents = before.parents;
        done = λ n a h. ⊎_elim (λ later. before.done n (omega arith) h) (λ le. let same : i ≡ n = omega arith in before.left n (omega arith) h (ap (has_bit pending) (sym same) ∙ off)) (cases_lt i n);
        left = λ n a h bit. before.left n (omega arith) h bit;
        asked = before.asked;
        up = λ n p a e bit. ⊎_elim (λ later. before.up n p (omega arith) e bit) (λ le. let same : i ≡ n = omega arith in absurd (both_ways (has_bit pending i) off (ap (has_bit pending) same ∙ bit))) (cases_lt i n);
        reached = before.reached;
        count = λ m at. omega (arith, count_more false (is_asked ∙ off) m at);
      }

      -- a node that is reached is formed, and its parent's bit is set
      module _ {o' : OutcomeView} (pending' : ℕ) (most : length nodes ≤ MOST_NODES) (on : has_bit pending i ≡ true)
          (keeps : (n : ℕ) → has_bit pending n ≡ true → has_bit pending' n ≡ true)
          (adds : (n : ℕ) → has_bit pending' n ≡ true → (has_bit pending n ≡ true) ⊎ (parent_of nodes i ≡ Some n))
          (takes : (p : ℕ) → parent_of nodes i ≡ Some p → has_bit pending' p ≡ true)
          (sums : AreSums nodes o') (small : AreSmall nodes o') (value : o'.values ≡ set o.values i (max (bid i) (get_or o.inside i 0)))
          (others : IsOthersSum nodes i o.inside o'.inside) (formed : o'.formed ≡ o.formed + 1) (parents : o'.parents ≡ o.parents) where
        value_here : get_or o'.values i 0 ≡ max (bid i) (get_or o.inside i 0)
        value_here = ap (λ vs. get_or vs i 0) value ∙ get_or-set_at o.values i i (max (bid i) (get_or o.inside i 0)) 0 refl (omega (arith, before.sums.count, most))

        value_there : (n : ℕ) → (n ≡ i → ⊥) → get_or o'.values n 0 ≡ get_or o.values n 0
        value_there n other = ap (λ vs. get_or vs n 0) value ∙ get_or-set_other o.values i n (max (bid i) (get_or o.inside i 0)) 0 other

        inside_from : (n : ℕ) → i ≤ n → get_or o'.inside n 0 ≡ get_or o.inside n 0
        inside_from n a = others n (λ e. omega (arith, tree.parents i n e))

        pub along_formed : Along i pending' o'
        along_formed = record {
          sums = sums;
          small = small;
          parents = λ n h. ap (λ ps. get_or ps n None) parents ∙ before.parents n h;
          done = λ n a h. ⊎_elim
              (λ later. value_there n (λ e. omega (arith, e)) ∙ before.done n (omega arith) h ∙ ap (max (bid n)) (sym (inside_from n a)))
              (λ le. let same : i ≡ n = omega arith in subst (λ j. get_or o'.values j 0 ≡ max (bid j) (get_or o'.inside j 0)) same (value_here ∙ ap (max (bid i)) (sym (inside_from i (omega arith)))))
              (cases_lt i n);
          left = λ n a h bit.
              value_there n (λ e. omega (arith, e)) ∙ before.left n (omega arith) h (false_from_ne_true (has_bit pending n) (λ e. both_ways (has_bit pending' n) bit (keeps n e)))
              ∙ ap (max (bid n)) (sym (others n (λ e. both_ways (has_bit pending' n) bit (takes n e))));
          asked = λ n bit. keeps n (before.asked n bit);
          up = λ n p a e bit. ⊎_elim
              (λ was. ⊎_elim
              (λ later. keeps p (before.up n p (omega arith) e was))
              (λ le. let same : i ≡ n = omega arith in takes p (ap (parent_of nodes) same ∙ e))
              (cases_lt i n))
              (λ above. absurd (omega (arith, tree.parents i n above)))
              (adds n bit);
          reached = λ n h bit. ⊎_elim
              (λ was. before.reached n h was)
              (λ above. let r : Reached nodes changed i = before.reached i within on in (r.0, r.1, r.2, under_trans nodes (child above itself) r.3))
              (adds n bit);
          count = λ m at. omega (arith, count_more true (is_asked ∙ on) m at, formed);
        }

      module _ {o' : OutcomeView} {above : Option ℕ} (most : length nodes ≤ MOST_NODES) (on : has_bit pending i ≡ true) (parent : above ≡ parent_of nodes i)
          (sums : AreSums nodes o') (small : AreSmall nodes o') (value : o'.values ≡ set o.values i (max (bid i) (get_or o.inside i 0)))
          (others : IsOthersSum nodes i o.inside o'.inside) (formed : o'.formed ≡ o.formed + 1) (parents : o'.parents ≡ o.parents) where
        pub along_part : {p q : ℕ} → above ≡ Some p → q ≡ p → q < 128 → Along i (bit_or pending (1 * 2 ^ q % 2 ^ 128)) o'
        along_part {p = p} {q = q} some same low = along_formed (bit_or pending (1 * 2 ^ q % 2 ^ 128)) most on
            (λ n bit. more n ∙ or_right (q == n) (has_bit pending n) bit)
            (λ n bit. ⊎_elim (λ e. inr (sym parent ∙ some ∙ ap Some (sym same ∙ eqb-true q n e))) (λ e. inl e) (or_cases (q == n) (has_bit pending n) (sym (more n) ∙ bit)))
            (λ r e. more r ∙ ap (λ b. b || has_bit pending r) (eq-eqb q r (same ∙ is_parent r e)))
            sums small value others formed parents
          where
            more : (n : ℕ) → has_bit (bit_or pending (1 * 2 ^ q % 2 ^ 128)) n ≡ ((q == n) || has_bit pending n)
            more n = ap (λ x. has_bit (bit_or pending x) n) (one_shl q 128 low) ∙ bit_more pending q n

            is_parent : (r : ℕ) → parent_of nodes i ≡ Some r → p ≡ r
            is_parent r e = cc (sym some ∙ parent ∙ e)

        pub along_top : above ≡ None → Along i pending o'
        along_top none = along_formed pending most on
            (λ n bit. bit)
            (λ n bit. inl bit)
            (λ p e. absurd (cc (sym none ∙ parent ∙ e)))
            sums small value others formed parents

    -- ---- in the end all nodes are done
    module _ {k pending : ℕ} {o : OutcomeView} (so_far : Along k pending o) (all : k ≡ 0) (most : length nodes ≤ MOST_NODES) (ordered : AreBefore o.parents) (wins : o.wins ≡ wins_of o.parents o.inside o.values) where
      right : (n : ℕ) → n < length nodes → get_or o.values n 0 ≡ max (bid n) (total (is_node n) nodes o.values)
      right n h = so_far.done n (omega arith) h ∙ ap (max (bid n)) (so_far.sums.inside n h)

      inside_right : (n : ℕ) → n < length nodes → get_or o.inside n 0 ≡ best nodes bid n
      inside_right n h = so_far.sums.inside n h ∙ right_total nodes tree bid o.values right (is_node n) ∙ sym (best_is nodes tree bid n h)

      values_right : (n : ℕ) → n < length nodes → get_or o.values n 0 ≡ max (bid n) (best nodes bid n)
      values_right n h = right_all nodes tree bid o.values right n h ∙ value_is nodes bid n h

      revenue_right : o.revenue ≡ revenue bid (winners nodes bid)
      revenue_right = so_far.sums.revenue ∙ right_total nodes tree bid o.values right is_top ∙ sym (winners_all bid nodes tree)

      pub along_outcome : IsOutcome nodes bid o
      along_outcome =
          let found : IsOutcome nodes bid (record { parents = o.parents; inside = o.inside; values = o.values; wins = wins_of o.parents o.inside o.values; revenue = o.revenue; formed = o.formed })
          = outcome_of nodes bid o.parents o.inside o.values most ordered so_far.parents inside_right values_right revenue_right in
          record { parents = found.parents; inside = found.inside; values = found.values; wins = λ n h. ap (λ ws. is_in ws n) wins ∙ found.wins n h; revenue = found.revenue }

      pub along_winners : IsWinners nodes bid (take (length nodes) o.wins)
      along_winners = subst (λ ws. IsWinners nodes bid (take (length nodes) ws)) (sym wins) (wins_right nodes bid o.parents o.inside o.values most ordered so_far.parents inside_right values_right tree)

      pub along_count : o.formed ≡ reached_count nodes changed
      along_count = so_far.count (length nodes) (omega arith) ∙ ap (λ j. count_by (is_reached nodes changed) (range_with_len j (length nodes))) all
