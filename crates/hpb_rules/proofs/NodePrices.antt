-- A node's price is its value and the dollars carried down to it. So the licences' prices cover every high bid and sum
-- to the revenue.
use Rattle.std.proofs.Common.{◌≡◌, ℕ, zero, suc, ◌+◌, ◌-◌, ◌*◌, ◌<◌, ◌≤◌, cond, List, Option, Some, None, length, drop, max, refl, sym, ap, ◌∙◌, arith}
use Rattle.std.specs.List.{sum_by, range_with_len}
use Rattle.std.proofs.Math.Numerals.{add-one}
use Rattle.std.proofs.lemmas.List.Sums.{sum_by-cons}
use Rattle.hpb_rules.specs.declared.licence.Terms.{Terms}
use Rattle.hpb_rules.specs.Tree.{Node, parent_of, terms_of, IsTree, itself, at_or_under}
use Rattle.hpb_rules.specs.Choices.{total, is_node, is_top, values_from, best, revenue, winners}
use Rattle.hpb_rules.specs.Prices.{of_package, surplus, carried, licence_price, price, Covers, price_of_all}
use Rattle.hpb_rules.specs.Laws.{PricesProve, PriceIsValue}
use Rattle.hpb_rules.proofs.Sums.{member, below_is}
use Rattle.hpb_rules.proofs.Under.{From, from_all, parent_in, inside_from_member, member_from_inside}
use Rattle.hpb_rules.proofs.Winners.{best_is, from_drop, top_all, winners_all}
use Rattle.hpb_rules.proofs.Upward.{total_bound}
use Rattle.hpb_rules.proofs.Tests.{same_answer}
use Rattle.hpb_rules.proofs.Cover.{sum_le}
use Rattle.hpb_rules.proofs.Carried.{carry_from, passed_all}
use Rattle.hpb_rules.proofs.GoingUp.{under_sound, under_complete, not_under_earlier}
use Rattle.hpb_rules.proofs.PriceSums.{flags, term, total_none, length_flags, part_eq, all_eq, range_split, prices_sum, total_carried}

module _ (nodes : List Node) (bid : ℕ → ℕ) (tree : IsTree nodes) where
  -- the dollars that a licence adds to the price of node n
  abbrev adds : ℕ → ℕ → ℕ
  adds n l = term (terms_of nodes l) (at_or_under nodes n l) (licence_price nodes bid l)

  -- no licence in front of node n is under it
  early : (n a k : ℕ) → a + k ≤ n → sum_by (adds n) (range_with_len a k) ≡ 0
  early n a zero h = refl
  early n a (suc k) h = omega (arith, early n (a + 1) k (omega arith), sum_by-cons (adds n) a (range_with_len (a + 1) k), none (terms_of nodes a))
    where
      none : (t : Option Terms) → term t (at_or_under nodes n a) (licence_price nodes bid a) ≡ ◌+◌ 0 0
      none None = omega arith
      none (Some t) = ap (λ b. cond b (licence_price nodes bid a) 0) (not_under_earlier nodes tree n a (omega arith)) ∙ omega arith

  -- the licences behind node n
  late : (n : ℕ) → n < length nodes → let ns = drop (suc n) nodes in
      sum_by (adds n) (range_with_len (suc n) (length ns)) ≡ total (is_node n) ns (values_from (suc n) ns bid) + total (is_node n) ns (carry_from nodes bid tree (suc n) ns)
  late n h =
      let ns : List Node = drop (suc n) nodes in
      let f : From nodes tree (suc n) ns = from_drop bid nodes tree (suc n) h in
      let same : (k : ℕ) → k < length ns → member (suc n) (is_node n) ns k ≡ at_or_under nodes n (suc n + k)
      = λ k l. same_answer (member (suc n) (is_node n) ns k) (at_or_under nodes n (suc n + k))
      (λ m. under_complete nodes tree n (suc n + k) (inside_from_member nodes tree n ns k f m).0)
      (λ u. member_from_inside nodes tree n ns k f (under_sound nodes n (suc n + k) u)) in
      sym (part_eq nodes (at_or_under nodes n) (licence_price nodes bid) (suc n) ns (is_node n) refl same) ∙ prices_sum nodes bid tree (suc n) ns refl (is_node n) (below_is n)

  -- the dollars that node n itself adds, and the best inside it
  own : (n : ℕ) (t : Option Terms) → n < length nodes → terms_of nodes n ≡ t → let ns = drop (suc n) nodes in
      term t (at_or_under nodes n n) (licence_price nodes bid n) + total (is_node n) ns (carry_from nodes bid tree (suc n) ns) + best nodes bid n ≡ max (bid n) (best nodes bid n) + carried nodes bid n
  own n None h e =
      let m : (m : ℕ) × (parent_of nodes m ≡ Some n) = tree.children n h e in
      let ns : List Node = drop (suc n) nodes in
      let a : total (is_node n) ns (carry_from nodes bid tree (suc n) ns) ≡ carried nodes bid n + surplus nodes bid n = passed_all nodes bid tree n m.0 m.1 (parent_in nodes m.0 n m.1) h in
      let b : surplus nodes bid n ≡ bid n - best nodes bid n = ap (λ x. of_package x (bid n - best nodes bid n)) e in
      omega (arith, a, b)
  own n (Some t) h e =
      let ns : List Node = drop (suc n) nodes in
      let f : From nodes tree (suc n) ns = from_drop bid nodes tree (suc n) h in
      let leaf : (k : ℕ) → parent_of ns k ≡ Some n → ⊥ = λ k u. let z : terms_of nodes n ≡ None = tree.packages (suc n + k) n (f.parents k ∙ u) in cc in
      let a : total (is_node n) ns (carry_from nodes bid tree (suc n) ns) ≡ 0 = total_none n ns (carry_from nodes bid tree (suc n) ns) leaf in
      let b : best nodes bid n ≡ 0 = best_is bid nodes tree n h ∙ total_none n ns (values_from (suc n) ns bid) leaf in
      let c : cond (at_or_under nodes n n) (licence_price nodes bid n) 0 ≡ licence_price nodes bid n = ap (λ t. cond t (licence_price nodes bid n) 0) (under_complete nodes tree n n itself) in
      omega (arith, a, b, c)

  -- a node's price is its value and the dollars carried down to it
  pub price_is : (n : ℕ) → n < length nodes → price nodes bid n ≡ max (bid n) (best nodes bid n) + carried nodes bid n
  price_is n h =
      let ns : List Node = drop (suc n) nodes in
      let f : From nodes tree (suc n) ns = from_drop bid nodes tree (suc n) h in
      let all : n + suc (length ns) ≡ length nodes = omega (arith, f.count) in
      let split : sum_by (adds n) (range_with_len 0 (n + suc (length ns))) ≡ sum_by (adds n) (range_with_len 0 n) + sum_by (adds n) (range_with_len (0 + n) (suc (length ns))) = range_split (adds n) 0 n (suc (length ns)) in
      let zero_n : 0 + n ≡ n = omega arith in
      let next : sum_by (adds n) (range_with_len (n + 1) (length ns)) ≡ sum_by (adds n) (range_with_len (suc n) (length ns)) = ap (λ a. sum_by (adds n) (range_with_len a (length ns))) (add-one n) in
      let whole : price nodes bid n ≡ sum_by (adds n) (range_with_len 0 (n + suc (length ns))) = ap (λ k. sum_by (adds n) (range_with_len 0 k)) (sym all) in
      let v : best nodes bid n ≡ total (is_node n) ns (values_from (suc n) ns bid) = best_is bid nodes tree n h in
      omega (arith, whole, split, early n 0 n (omega arith), ap (λ a. sum_by (adds n) (range_with_len a (suc (length ns)))) zero_n, sum_by-cons (adds n) n (range_with_len (n + 1) (length ns)), next, late n h, own n (terms_of nodes n) h refl, v)

  -- a licence's price is its bid and the dollars carried down to it
  pub licence_price_is : (n : ℕ) (t : Terms) → n < length nodes → terms_of nodes n ≡ Some t → price nodes bid n ≡ licence_price nodes bid n
  licence_price_is n t h e =
      let ns : List Node = drop (suc n) nodes in
      let f : From nodes tree (suc n) ns = from_drop bid nodes tree (suc n) h in
      let leaf : (k : ℕ) → parent_of ns k ≡ Some n → ⊥ = λ k u. let z : terms_of nodes n ≡ None = tree.packages (suc n + k) n (f.parents k ∙ u) in cc in
      let b : best nodes bid n ≡ 0 = best_is bid nodes tree n h ∙ total_none n ns (values_from (suc n) ns bid) leaf in
      omega (arith, price_is n h, b)

  pub covers : Covers nodes bid (licence_price nodes bid)
  covers n h = omega (arith, price_is n h)

  pub sum_is_revenue : price_of_all nodes (licence_price nodes bid) ≡ revenue bid (winners nodes bid)
  sum_is_revenue =
      let f : ℕ → ℕ = licence_price nodes bid in
      sym (all_eq nodes f 0 nodes refl) ∙ sym (top_all f nodes tree (flags nodes) (length_flags nodes)) ∙ prices_sum nodes bid tree 0 nodes refl is_top (λ j h. refl)
      ∙ omega (arith, total_carried nodes bid tree 0 nodes (from_all nodes tree), winners_all bid nodes tree)

  -- no price exceeds the revenue, so prices and the dollars carried and passed on are bounded as bids are
  pub price_bound : (most n : ℕ) → ((m : ℕ) → bid m ≤ most) → price nodes bid n ≤ length nodes * most
  price_bound most n h = omega (
    arith,
    sum_le nodes (at_or_under nodes n) (licence_price nodes bid),
    sum_is_revenue,
    winners_all bid nodes tree,
    total_bound most bid 0 is_top nodes h (λ j l. refl),
  )

  pub passed_bound : (most n : ℕ) → ((m : ℕ) → bid m ≤ most) → n < length nodes → (carried nodes bid n + surplus nodes bid n) ≤ length nodes * most
  passed_bound most n h l = omega (arith, price_bound most n h, price_is n l, less (terms_of nodes n))
    where
      less : (t : Option Terms) → of_package t (bid n - best nodes bid n) ≤ bid n - best nodes bid n
      less None = omega arith
      less (Some t) = omega arith

pub prices_prove : PricesProve
prices_prove nodes bid tree = (covers nodes bid tree, sum_is_revenue nodes bid tree)

pub price_is_value : PriceIsValue
price_is_value nodes bid node tree h = price_is nodes bid tree node h
