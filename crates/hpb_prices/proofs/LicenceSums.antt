-- Sums over licences, by the licences' numbers.
use Rattle.std.proofs.Common.{◌≡◌, ℕ, zero, suc, ◌+◌, ◌-◌, ◌<◌, ◌≤◌, Bool, true, false, cond, eqb, List, map, Option, Some, None, length, drop, refl, sym, ap, ◌∙◌, arith}
use Rattle.std.specs.Prelude.{is_some, IsSome}
use Rattle.std.specs.List.{sum_by, range_with_len}
use Rattle.std.specs.Int.{bit_at}
use Rattle.std.proofs.Math.Numerals.{add-one}
use Rattle.std.proofs.lemmas.List.{at_drop_all}
use Rattle.std.proofs.lemmas.List.Sums.{sum_by-cons}
use Rattle.std.proofs.lemmas.Nat.Bits.{bit_at_ones}
use Rattle.hpb_rules.specs.declared.licence.Terms.{Terms}
use Rattle.hpb_rules.specs.Tree.{Node, terms_of, sum_over, at_or_under}
use Rattle.hpb_rules.specs.Choices.{revenue_from, revenue}
use Rattle.hpb_rules.specs.Prices.{price_of_all}
use Rattle.hpb_rules.proofs.Places.{sum_more}
use Rattle.hpb_rules.proofs.Tests.{bit_of_test}
use Rattle.hpb_tree.specs.Licences.{licence_count, licence_number, part_over, IsMask}
use Rattle.hpb_prices.specs.Certificate.{sum_where, bid_listed, price_listed, set_of}
use Rattle.hpb_prices.proofs.MaskedSums.{sum_next}

module _ (nodes : List Node) where
  -- the number of a licence, one place later
  pub number_more : (i : ℕ) → licence_number nodes (i + 1) ≡ licence_number nodes i + cond (is_some (terms_of nodes i)) 1 0
  number_more i = sum_more (λ n. cond (is_some (terms_of nodes n)) 1 0) i

  number_none : (i : ℕ) → terms_of nodes i ≡ None → licence_number nodes (i + 1) ≡ licence_number nodes i
  number_none i e = number_more i ∙ ap (λ t. licence_number nodes i + cond (is_some t) 1 0) e ∙ omega arith

  number_some : (i : ℕ) (t : Terms) → terms_of nodes i ≡ Some t → licence_number nodes (i + 1) ≡ licence_number nodes i + 1
  number_some i t e = number_more i ∙ ap (λ t. licence_number nodes i + cond (is_some t) 1 0) e

  number_grows : (i d : ℕ) → licence_number nodes i ≤ licence_number nodes (i + d)
  number_grows i zero = let e : i ≡ i + 0 = omega arith in omega (arith, ap (licence_number nodes) e)
  number_grows i (suc d) = let e : (i + d) + 1 ≡ i + suc d = omega arith in omega (arith, number_grows i d, number_more (i + d), ap (licence_number nodes) e)

  number_within : (i : ℕ) (t : Terms) → terms_of nodes i ≡ Some t → i < length nodes → licence_number nodes i < licence_count nodes
  number_within i t e h = let j : (i + 1) + (length nodes - (i + 1)) ≡ length nodes = omega arith in
      omega (arith, number_some i t e, number_grows (i + 1) (length nodes - (i + 1)), ap (licence_number nodes) j)

  -- the count, from the fields that the code reads of the node
  pub number_at : {i node count : ℕ} {t : Option Terms} {b : Bool} → node ≡ i → t ≡ terms_of nodes node → b ≡ is_some t → count ≡ licence_number nodes i → count + cond b 1 0 ≡ licence_number nodes (i + 1)
  number_at {i = i} {b = b} at e f c = ap (λ k. k + cond b 1 0) c ∙ ap (λ x. licence_number nodes i + cond x 1 0) (f ∙ ap is_some (e ∙ ap (terms_of nodes) at)) ∙ sym (number_more i)

  -- there are no more licences than nodes
  pub number_most : (i : ℕ) → licence_number nodes i ≤ i
  number_most zero = omega arith
  number_most (suc i) = let e : i + 1 ≡ suc i = omega arith in omega (arith, number_most i, number_more i, ap (licence_number nodes) e, one (is_some (terms_of nodes i)))
    where
      one : (b : Bool) → cond {A = ℕ} b 1 0 ≤ 1
      one true = omega arith
      one false = omega arith

  module _ (mask : ℕ) (test : ℕ → Bool) (prices : List ℕ) (counted : length prices ≡ licence_count nodes) (bits : (l : ℕ) → l < length nodes → IsSome (terms_of nodes l) → bit_at mask (licence_number nodes l) ≡ cond (test l) 1 0) where
    walk : (m i : ℕ) → i + m ≡ length nodes → sum_by (part_over nodes test (price_listed nodes prices)) (range_with_len i m) ≡ sum_where mask (licence_number nodes i) (drop (licence_number nodes i) prices)
    walk zero i e = let all : i ≡ length nodes = omega arith in
        sym (at_drop_all (sum_where mask (licence_number nodes i)) prices (licence_number nodes i) (omega (arith, counted, ap (licence_number nodes) all)))
    walk (suc m) i e = by (walk m (i + 1) (omega arith)) (terms_of nodes i) refl
      where
        by : sum_by (part_over nodes test (price_listed nodes prices)) (range_with_len (i + 1) m) ≡ sum_where mask (licence_number nodes (i + 1)) (drop (licence_number nodes (i + 1)) prices)
            → (t : Option Terms) → terms_of nodes i ≡ t → sum_by (part_over nodes test (price_listed nodes prices)) (range_with_len i (suc m)) ≡ sum_where mask (licence_number nodes i) (drop (licence_number nodes i) prices)
        by rest None none =
            let here : part_over nodes test (price_listed nodes prices) i ≡ 0 = ap (λ t. elim t [ None ↦ 0 | Some x ↦ cond (test i) (price_listed nodes prices i) 0 ]) none in
            omega (arith, sum_by-cons (part_over nodes test (price_listed nodes prices)) i (range_with_len (i + 1) m), here, rest, ap (λ k. sum_where mask k (drop k prices)) (number_none i none))
        by rest (Some t) some =
            let here : part_over nodes test (price_listed nodes prices) i ≡ cond (test i) (price_listed nodes prices i) 0 = ap (λ t. elim t [ None ↦ 0 | Some x ↦ cond (test i) (price_listed nodes prices i) 0 ]) some in
            let bit : bit_at mask (licence_number nodes i) ≡ cond (test i) 1 0 = bits i (omega arith) (ap is_some some) in
            let same : cond (eqb (bit_at mask (licence_number nodes i)) 1) (price_listed nodes prices i) 0 ≡ cond (test i) (price_listed nodes prices i) 0 = ap (λ b. cond (eqb b 1) (price_listed nodes prices i) 0) bit ∙ ap (λ b. cond b (price_listed nodes prices i) 0) (bit_of_test (test i)) in
            omega (
              arith,
              sum_by-cons (part_over nodes test (price_listed nodes prices)) i (range_with_len (i + 1) m),
              here,
              rest,
              ap (λ k. sum_where mask k (drop k prices)) (number_some i t some),
              same,
              sum_next mask (licence_number nodes i) prices (omega (arith, counted, number_within i t some (omega arith))),
            )

    -- the sum over the licences that pass the test
    pub sum_licences : sum_where mask 0 prices ≡ sum_over nodes test (price_listed nodes prices)
    sum_licences = sym (walk (length nodes) 0 (omega arith))

  -- the price of a node, by the mask of its licences
  pub sum_node : {node place mask set : ℕ} (prices : List ℕ) → node ≡ place → set ≡ mask → IsMask nodes node mask → length prices ≡ licence_count nodes → sum_where set 0 prices ≡ sum_over nodes (λ l. at_or_under nodes place l) (price_listed nodes prices)
  sum_node {node = node} {mask = mask} prices at e m counted =
      ap (λ s. sum_where s 0 prices) e
      ∙ sum_licences mask (at_or_under nodes node) prices counted (λ l h some. m.bits l some)
      ∙ ap (λ n. sum_over nodes (λ l. at_or_under nodes n l) (price_listed nodes prices)) at

  -- the sum over all licences
  pub sum_all : (prices : List ℕ) → length prices ≡ licence_count nodes → length nodes ≤ 127 → sum_where 340282366920938463463374607431768211455 0 prices ≡ price_of_all nodes (price_listed nodes prices)
  sum_all prices counted few = sum_licences 340282366920938463463374607431768211455 (λ l. true) prices counted (λ l h some. bit_at_ones 128 (licence_number nodes l) (omega (arith, number_most l)))

  -- the sum over the nodes of a set
  set_walk : (winners : ℕ) (highs : List ℕ) (m i : ℕ) → i + m ≡ length highs → revenue_from i (bid_listed highs) (map (λ n. eqb (bit_at winners n) 1) (range_with_len i m)) ≡ sum_where winners i (drop i highs)
  set_walk winners highs zero i e = sym (at_drop_all (sum_where winners i) highs i (omega arith))
  set_walk winners highs (suc m) i e =
      let rest : revenue_from (i + 1) (bid_listed highs) (map (λ n. eqb (bit_at winners n) 1) (range_with_len (i + 1) m)) ≡ sum_where winners (i + 1) (drop (i + 1) highs) = set_walk winners highs m (i + 1) (omega arith) in
      let same : revenue_from (suc i) (bid_listed highs) (map (λ n. eqb (bit_at winners n) 1) (range_with_len (i + 1) m)) ≡ revenue_from (i + 1) (bid_listed highs) (map (λ n. eqb (bit_at winners n) 1) (range_with_len (i + 1) m))
      = ap (λ k. revenue_from k (bid_listed highs) (map (λ n. eqb (bit_at winners n) 1) (range_with_len (i + 1) m))) (sym (add-one i)) in
      omega (arith, rest, same, sum_next winners i highs (omega arith))

  pub sum_set : (winners : ℕ) (highs : List ℕ) → length highs ≡ length nodes → sum_where winners 0 highs ≡ revenue (bid_listed highs) (set_of nodes winners)
  sum_set winners highs e = sym (ap (λ k. revenue_from 0 (bid_listed highs) (map (λ n. eqb (bit_at winners n) 1) (range_with_len 0 k))) (sym e) ∙ set_walk winners highs (length highs) 0 (omega arith))
