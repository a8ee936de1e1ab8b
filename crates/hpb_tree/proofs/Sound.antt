-- What holds of nodes that no test refuses.
use Rattle.std.proofs.Common.{◌≡◌, ℕ, zero, suc, ◌+◌, ◌*◌, ◌<◌, ◌≤◌, Bool, true, false, cond, List, length, Option, Some, None, ap, subst, arith}
use Rattle.std.proofs.Math.Numerals.{add-one}
use Rattle.std.proofs.Math.Nat.{mul-le-mul_left}
use Rattle.std.specs.Option.{is_some}
use Rattle.std.specs.List.{sum_by, range_with_len}
use Rattle.hpb_rules.specs.declared.limits.TheConstants.{MOST_LICENCES, MOST_LICENCE_UNITS, MOST_LICENCE_OPENING}
use Rattle.hpb_rules.specs.declared.licence.Terms.{Terms}
use Rattle.hpb_rules.specs.Tree.{Node, IsTree, terms_of, at_or_under, units_at, opening_at}
use Rattle.hpb_rules.proofs.TreeLaws.{full_tree}
use Rattle.hpb_rules.proofs.Places.{sum_more, sum_grows, sum_has}
use Rattle.hpb_tree.specs.Licences.{licences_among, part_over}
use Rattle.hpb_tree.specs.Sound.{AreSound}
use Rattle.hpb_rules.proofs.Depths.{Ordered}
use Rattle.hpb_tree.proofs.Walks.{ordered}

-- one place more adds its part to the sums of a node
pub units_more : (nodes : List Node) (node n : ℕ)
    → sum_by (part_over nodes (λ l. at_or_under nodes node l) (units_at nodes)) (range_with_len 0 (n + 1)) ≡ sum_by (part_over nodes (λ l. at_or_under nodes node l) (units_at nodes)) (range_with_len 0 n) + part_over nodes (λ l. at_or_under nodes node l) (units_at nodes) n
units_more nodes node n = sum_more (part_over nodes (λ l. at_or_under nodes node l) (units_at nodes)) n

pub opening_more : (nodes : List Node) (node n : ℕ)
    → sum_by (part_over nodes (λ l. at_or_under nodes node l) (opening_at nodes)) (range_with_len 0 (n + 1)) ≡ sum_by (part_over nodes (λ l. at_or_under nodes node l) (opening_at nodes)) (range_with_len 0 n) + part_over nodes (λ l. at_or_under nodes node l) (opening_at nodes) n
opening_more nodes node n = sum_more (part_over nodes (λ l. at_or_under nodes node l) (opening_at nodes)) n

module _ (nodes : List Node) (sound : AreSound nodes) where
  pub before : Ordered nodes
  before = ordered nodes sound.ordered

  pub is_tree : IsTree nodes
  is_tree = (full_tree nodes sound.ordered sound.packages sound.licences).tree

  -- a bound of the sum over the licences of a node
  module _ (test : ℕ → Bool) (number : ℕ → ℕ) (most : ℕ) (small : (l : ℕ) → number l ≤ most) where
    part_most : (l : ℕ) → part_over nodes test number l ≤ most * cond (is_some (terms_of nodes l)) 1 0
    part_most l = by (terms_of nodes l) (test l)
      where
        by : (t : Option Terms) (b : Bool) → elim t [ None ↦ 0 | Some x ↦ cond b (number l) 0 ] ≤ most * cond (is_some t) 1 0
        by None b = omega arith
        by (Some x) true = omega (arith, small l)
        by (Some x) false = omega arith

    sum_most : (n : ℕ) → sum_by (part_over nodes test number) (range_with_len 0 n) ≤ most * licences_among nodes (range_with_len 0 n)
    sum_most zero = omega arith
    sum_most (suc n) = subst (λ m. sum_by (part_over nodes test number) (range_with_len 0 m) ≤ most * licences_among nodes (range_with_len 0 m)) (add-one n)
        (omega (arith, sum_more (part_over nodes test number) n, ap (λ x. most * x) (sum_more (λ l. cond {A = ℕ} (is_some (terms_of nodes l)) 1 0) n), sum_most n, part_most n))

    sum_within : (n : ℕ) → n ≤ length nodes → sum_by (part_over nodes test number) (range_with_len 0 n) ≤ most * MOST_LICENCES
    sum_within n h =
        let few : licences_among nodes (range_with_len 0 n) ≤ MOST_LICENCES = omega (arith, sum_grows (λ l. cond {A = ℕ} (is_some (terms_of nodes l)) 1 0) n (length nodes) h, sound.most_licences) in
        omega (arith, sum_most n, mul-le-mul_left most few)

  -- the sums of a node over the places before one are within their limits
  pub units_within : (node n : ℕ) → n ≤ length nodes → sum_by (part_over nodes (λ l. at_or_under nodes node l) (units_at nodes)) (range_with_len 0 n) ≤ MOST_LICENCES * MOST_LICENCE_UNITS
  units_within node n h = omega (arith, sum_within (λ l. at_or_under nodes node l) (units_at nodes) MOST_LICENCE_UNITS sound.units n h)

  pub opening_within : (node n : ℕ) → n ≤ length nodes → sum_by (part_over nodes (λ l. at_or_under nodes node l) (opening_at nodes)) (range_with_len 0 n) ≤ MOST_LICENCES * MOST_LICENCE_OPENING
  opening_within node n h = omega (arith, sum_within (λ l. at_or_under nodes node l) (opening_at nodes) MOST_LICENCE_OPENING sound.openings n h)

  -- so one place more doesn't exceed the limits
  pub units_room : (node n : ℕ) → n < length nodes → sum_by (part_over nodes (λ l. at_or_under nodes node l) (units_at nodes)) (range_with_len 0 n) + part_over nodes (λ l. at_or_under nodes node l) (units_at nodes) n ≤ MOST_LICENCES * MOST_LICENCE_UNITS
  units_room node n h = omega (arith, units_more nodes node n, units_within node (n + 1) (omega arith))

  pub opening_room : (node n : ℕ) → n < length nodes → sum_by (part_over nodes (λ l. at_or_under nodes node l) (opening_at nodes)) (range_with_len 0 n) + part_over nodes (λ l. at_or_under nodes node l) (opening_at nodes) n ≤ MOST_LICENCES * MOST_LICENCE_OPENING
  opening_room node n h = omega (arith, opening_more nodes node n, opening_within node (n + 1) (omega arith))

  pub is_licence_at : (l : ℕ) → is_some (terms_of nodes l) ≡ true → cond {A = ℕ} (is_some (terms_of nodes l)) 1 0 ≡ 1
  is_licence_at l e = ap (λ b. cond {A = ℕ} b 1 0) e

  -- a licence's number is below the most licences that there can be
  pub number_most : (l : ℕ) → l < length nodes → is_some (terms_of nodes l) ≡ true → licences_among nodes (range_with_len 0 l) < MOST_LICENCES
  number_most l h e = omega (arith, sum_has (λ n. cond {A = ℕ} (is_some (terms_of nodes n)) 1 0) l (length nodes) h, is_licence_at l e, sound.most_licences)
