-- The licences that bidders hold, by the rules of an auction and after a bid.
use Rattle.std.proofs.Common.{◌≡◌, ℕ, ◌<◌, ◌≤◌, Bool, true, false, ◌&&◌, ◌||◌, eqb, List, length, Option, Some, None, refl, sym, ap, ◌∙◌, arith}
use Rattle.std.specs.Prelude.{◌==◌, slice_index}
use Rattle.std.specs.List.{list_any}
use Rattle.std.proofs.Math.Bool.{or-false}
use Rattle.hpb_rules.specs.declared.command.Offer.{Offer}
use Rattle.hpb_rules.specs.declared.licence.Terms.{Terms}
use Rattle.hpb_rules.specs.declared.limits.TheConstants.{MOST_BIDDERS, MOST_LICENCE_UNITS}
use Rattle.hpb_rules.specs.Choices.{is_in}
use Rattle.hpb_rules.specs.Drafts.{draft_refusal}
use Rattle.hpb_rules.specs.History.{is_of}
use Rattle.hpb_rules.specs.Tree.{Rules, Node, terms_of, places, at_or_under, of_terms, units_at}
use Rattle.hpb_rules.proofs.TreeLaws.{accepted_is_definition}
use Rattle.hpb_bids.specs.View.{BooksView, has_bid}
use Rattle.hpb_winners.specs.View.{OutcomeView}
use Rattle.hpb_units.specs.Activity.{is_active_on, held, activity_of}
use Rattle.hpb_units.specs.Holdings.{HoldingsView, holds, AreSmall, AreSummed, AreHoldings, HoldsMore}
use Rattle.hpb_units.proofs.Counting.{sum_over_same}
use Rattle.hpb_auction.proofs.Activities.{one_more}
use Rattle.hpb_auction.proofs.BidTables.{IsPlaced}

-- the licences of a definition are small
pub small : (rules : Rules) → draft_refusal rules ≡ None → AreSmall rules.nodes
small rules accepted l = by (terms_of rules.nodes l) refl
  where
    by : (terms : Option Terms) → terms_of rules.nodes l ≡ terms → of_terms terms (λ terms. terms.units) ≤ MOST_LICENCE_UNITS
    by None e = omega arith
    by (Some terms) e = omega (arith, ((accepted_is_definition rules accepted).licence_terms l terms e).units.1)

-- a bidder's units are its activity
pub activity_held : (nodes : List Node) (books : BooksView) (outcome : OutcomeView) (holdings : HoldingsView) → AreHoldings nodes books outcome holdings
    → (b : ℕ) → b < MOST_BIDDERS → slice_index holdings.units b ≡ activity_of nodes books outcome b
activity_held nodes books outcome holdings are b within =
    are.summed.sums b within ∙ sum_over_same nodes (holds nodes holdings b) (held nodes books outcome b) (units_at nodes) (λ l some. are.licences b l within some)

module _ (nodes : List Node) (books books' : BooksView) (outcome : OutcomeView) (b n amount : ℕ) (inside : n < length nodes) (placed : IsPlaced books books' b n amount) where
  -- the nodes on which a bidder is active after a bid
  active_placed : (c m : ℕ) → is_active_on books' outcome c m ≡ (((b == c) && (n == m)) || is_active_on books outcome c m)
  active_placed c m =
      three _ ((b == c) && (n == m)) (has_bid books c m) _ _ (placed.bids c m) (ap (λ (offer : Option Offer). is_in outcome.wins m && is_of c offer) (placed.standing m))
    where
      three : (x y z w w' : Bool) → x ≡ (y || z) → w ≡ w' → (x || w) ≡ (y || (z || w'))
      three x true z w w' e f = cc
      three x false z w w' e f = cc

  -- the licences that a bidder holds after a bid
  held_placed : (c l : ℕ) → held nodes books' outcome c l ≡ (held nodes books outcome c l || ((b == c) && at_or_under nodes n l))
  held_placed c l = ap (λ (test : ℕ → Bool). list_any test (places nodes)) (λ i. λ m. ap (λ active. at_or_under nodes m l && active) (active_placed c m) i) ∙ by (eqb b c) refl
    where
      by : (t : Bool) → eqb b c ≡ t
          → list_any (λ m. at_or_under nodes m l && ((t && (n == m)) || is_active_on books outcome c m)) (places nodes) ≡ (held nodes books outcome c l || (t && at_or_under nodes n l))
      by true e = one_more (λ m. at_or_under nodes m l) (is_active_on books outcome c) n 0 (length nodes) (omega arith) (omega (arith, inside))
      by false e = sym (or-false (held nodes books outcome c l))

  -- the holdings after a bid
  pub holdings_placed : (old new : HoldingsView) → AreHoldings nodes books outcome old → HoldsMore nodes old new b n → AreSummed nodes new → AreHoldings nodes books' outcome new
  holdings_placed old new are more summed = record {
    licences = λ c l within some. more c l some ∙ ap (λ t. t || ((b == c) && at_or_under nodes n l)) (are.licences c l within some) ∙ sym (held_placed c l);
    summed = summed;
  }
