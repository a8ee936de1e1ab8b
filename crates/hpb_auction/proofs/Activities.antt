-- A bidder's activity by the tables is its activity by the history.
use Rattle.std.proofs.Common.{◌≡◌, ℕ, ◌+◌, ◌<◌, ◌≤◌, Bool, true, false, ◌&&◌, ◌||◌, eqb, length, refl, sym, ap, ◌∙◌, arith, subst}
use Rattle.std.specs.Prelude.{◌==◌}
use Rattle.std.specs.List.{list_any, range_with_len}
use Rattle.std.proofs.lemmas.Bool.{eq-eqb, eqb-true, both_ways}
use Rattle.hpb_rules.specs.Tree.{sum_over, at_or_under, units_at}
use Rattle.hpb_rules.specs.History.{is_of}
use Rattle.hpb_rules.specs.Choices.{is_in}
use Rattle.hpb_rules.specs.AuctionValue.{AuctionValue, NodeBids}
use Rattle.hpb_rules.specs.Values.{node_at, is_active, activity_in, activity_with_bid}
use Rattle.hpb_rules.proofs.Tests.{same_answer, or_same}
use Rattle.hpb_rules.proofs.Ranges.{found_in, finds_in}
use Rattle.hpb_rules.proofs.RunLaws.{units_same}
use Rattle.hpb_units.specs.Activity as units
use Rattle.hpb_auction.specs.declared.auction.Auction.TheInside.{Inside}
use Rattle.hpb_auction.specs.Inside.{value_inside, IsKept}
use Rattle.hpb_auction.proofs.Tables.{node_here, flag_here}
use Rattle.hpb_auction.proofs.HighBids.{wins_here}

both : (x y : Bool) → (x && y) ≡ true → (x ≡ true) × (y ≡ true)
both true y e = (refl, e)
both false y e = absurd (both_ways false refl e)

one_of : (x y : Bool) → (x || y) ≡ true → (x ≡ false → y ≡ true)
one_of true y e f = absurd (both_ways true f refl)
one_of false y e f = e

-- a licence is under some active node, with one more node active
pub one_more : (under active : ℕ → Bool) (on a k : ℕ) → a ≤ on → on < a + k
    → list_any (λ n. under n && ((on == n) || active n)) (range_with_len a k) ≡ (list_any (λ n. under n && active n) (range_with_len a k) || under on)
one_more under active on a k from to = same_answer _ _ there back
  where
    older : ℕ → Bool
    older n = under n && active n

    newer : ℕ → Bool
    newer n = under n && ((on == n) || active n)

    right : (x y : Bool) → y ≡ true → (x || y) ≡ true
    right true y e = refl
    right false y e = e

    left : (x y : Bool) → x ≡ true → (x || y) ≡ true
    left true y e = refl
    left false y e = absurd (both_ways false refl e)

    and : (x y : Bool) → x ≡ true → y ≡ true → (x && y) ≡ true
    and true y e f = f
    and false y e f = absurd (both_ways false refl e)

    there : list_any newer (range_with_len a k) ≡ true → (list_any older (range_with_len a k) || under on) ≡ true
    there e =
        let f : (n : ℕ) × (a ≤ n) × (n < a + k) × (newer n ≡ true) = found_in newer a k e in
        let g : (under f.0 ≡ true) × (((on == f.0) || active f.0) ≡ true) = both (under f.0) ((on == f.0) || active f.0) f.3 in
        by f.0 f.1 f.2 g.0 g.1 (eqb on f.0) refl
      where
        by : (n : ℕ) → a ≤ n → n < a + k → under n ≡ true → ((on == n) || active n) ≡ true → (b : Bool) → eqb on n ≡ b → (list_any older (range_with_len a k) || under on) ≡ true
        by n l h u v true p = right (list_any older (range_with_len a k)) (under on) (ap under (eqb-true on n p) ∙ u)
        by n l h u v false p = left (list_any older (range_with_len a k)) (under on) (finds_in older a k n l h (and (under n) (active n) u (one_of (on == n) (active n) v p)))

    back : (list_any older (range_with_len a k) || under on) ≡ true → list_any newer (range_with_len a k) ≡ true
    back e = by (list_any older (range_with_len a k)) refl
      where
        by : (b : Bool) → list_any older (range_with_len a k) ≡ b → list_any newer (range_with_len a k) ≡ true
        by true p =
            let f : (n : ℕ) × (a ≤ n) × (n < a + k) × (older n ≡ true) = found_in older a k p in
            let g : (under f.0 ≡ true) × (active f.0 ≡ true) = both (under f.0) (active f.0) f.3 in
            finds_in newer a k f.0 f.1 f.2 (and (under f.0) ((on == f.0) || active f.0) g.0 (right (on == f.0) (active f.0) g.1))
        by false p = finds_in newer a k on from to (and (under on) ((on == on) || active on) (one_of (list_any older (range_with_len a k)) (under on) e p) (left (on == on) (active on) (eq-eqb on on refl)))

module _ (a : Inside) (kept : IsKept a) where
  active_here : (b n : ℕ) → b < length a.definition.bidders → n < length a.definition.nodes → is_active (value_inside a) b n ≡ units.is_active_on a.books a.outcome b n
  active_here b n h k = or_same _ _ _ _ (flag_here a b n h k) (ap (λ wins. wins && is_of b (node_at (value_inside a) n).high) (sym (wins_here a kept n k))
      ∙ ap (λ (bids : NodeBids). is_in a.outcome.wins n && is_of b bids.high) (node_here a n k))

  pub activity_here : (b : ℕ) → b < length a.definition.bidders → activity_in (value_inside a) b ≡ units.activity_of a.definition.nodes a.books a.outcome b
  activity_here b h = units_same a.definition (is_active (value_inside a) b) (units.is_active_on a.books a.outcome b) (λ n k. active_here b n h k)

  pub activity_with_here : (b on : ℕ) → b < length a.definition.bidders → on < length a.definition.nodes → activity_with_bid (value_inside a) b on ≡ units.activity_with a.definition.nodes a.books a.outcome b on
  activity_with_here b on h k =
      units_same a.definition (λ node. (on == node) || is_active (value_inside a) b node) (λ node. (on == node) || units.is_active_on a.books a.outcome b node)
      (λ n l. ap (λ t. (on == n) || t) (active_here b n h l))
      ∙ ap (λ (test : ℕ → Bool). sum_over a.definition.nodes test (units_at a.definition.nodes))
      (λ i. λ licence. one_more (λ n. at_or_under a.definition.nodes n licence) (units.is_active_on a.books a.outcome b) on 0 (length a.definition.nodes) (omega arith) (omega arith) i)

module _ (a : Inside) (kept : IsKept a) (value : AuctionValue) (seen : value_inside a ≡ value) where
  pub activity_found : (b : ℕ) → b < length value.rules.bidders → activity_in value b ≡ units.activity_of a.definition.nodes a.books a.outcome b
  activity_found b h = subst (λ (value : AuctionValue). b < length value.rules.bidders → activity_in value b ≡ units.activity_of a.definition.nodes a.books a.outcome b) seen (activity_here a kept b) h

  pub activity_with_found : (b on : ℕ) → b < length value.rules.bidders → on < length value.rules.nodes → activity_with_bid value b on ≡ units.activity_with a.definition.nodes a.books a.outcome b on
  activity_with_found b on h k =
      subst (λ (value : AuctionValue). b < length value.rules.bidders → on < length value.rules.nodes → activity_with_bid value b on ≡ units.activity_with a.definition.nodes a.books a.outcome b on) seen (activity_with_here a kept b on) h k
