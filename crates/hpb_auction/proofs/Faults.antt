-- The fault of a command, by the tables.
use Rattle.std.proofs.Common.{◌≡◌, ℕ, ◌%◌, ◌<◌, ◌≤◌, Bool, true, false, not, length, get_or, Option, Some, None, slice_index_or, refl, sym, ap, ◌∙◌, ⊎_elim, arith, subst}
use Rattle.std.specs.Prelude.{if◌then◌else◌, ◌==◌, ◌↔◌, IsTrue, nat_lt, slice_index}
use Rattle.std.proofs.lemmas.Bool.{lt-ltb, le-ltb, both_ways, cases_lt}
use Rattle.hpb_rules.specs.declared.command.Command.TheVariants.{Bid}
use Rattle.hpb_rules.specs.declared.limits.TheConstants.{MOST_AMOUNT}
use Rattle.hpb_rules.specs.declared.refusal.Refusal.{Refusal}
use Rattle.hpb_rules.specs.declared.refusal.Refusal.TheVariants as refusals
use Rattle.hpb_rules.specs.Tree.{TreeRules, tree_of}
use Rattle.hpb_rules.specs.AuctionValue.{BidderState, AuctionValue}
use Rattle.hpb_rules.specs.Values.{bidder_at, minimum_in, activity_with_bid, fault_in}
use Rattle.hpb_bids.specs.View.{has_bid}
use Rattle.hpb_units.specs.Activity as units
use Rattle.hpb_auction.specs.declared.sender.BidderRow.{BidderRow}
use Rattle.hpb_auction.specs.declared.auction.Auction.TheInside.{Inside}
use Rattle.hpb_auction.specs.Inside.{value_inside, row_at, IsKept}
use Rattle.hpb_auction.proofs.Tables.{bidder_found, flag_here, row_found}
use Rattle.hpb_auction.proofs.HighBids.{minimum_found}
use Rattle.hpb_auction.proofs.Activities.{activity_with_found}

-- the first fault of a bid
abbrev pub first_fault : (stepped low most again over : Bool) → Option Refusal
first_fault stepped low most again over =
    if not stepped then Some refusals.Step else (if low then Some refusals.Low else (if most then Some refusals.High else (if again then Some refusals.Again else (if over then Some refusals.Eligibility else None))))

module _ (q : AuctionValue) (from on amount : ℕ) where
  pub fault_is : (stepped low most again over : Bool) → (amount % q.rules.step == 0) ≡ stepped → nat_lt amount (minimum_in q on) ≡ low → nat_lt MOST_AMOUNT amount ≡ most
      → slice_index_or (bidder_at q from).bid_on on false ≡ again → nat_lt (bidder_at q from).eligibility (activity_with_bid q from on) ≡ over
      → (ticket : ℕ) → first_fault stepped low most again over ≡ fault_in q (Bid from ticket on amount)
  fault_is stepped low most again over e f g h k ticket = cc

module _ (a : Inside) (kept : IsKept a) (q : AuctionValue) (seen : value_inside a ≡ q) (from on amount : ℕ) (in_bidders : from < length q.rules.bidders) (in_nodes : on < length q.rules.nodes) where
  pub low_found : (minimum : ℕ) → minimum ≡ slice_index a.prices.minima on → nat_lt amount (minimum_in q on) ≡ nat_lt amount minimum
  low_found minimum e = ap (nat_lt amount) (sym (minimum_found a kept q seen on in_nodes) ∙ sym e)

  pub again_found : slice_index_or (bidder_at q from).bid_on on false ≡ has_bid a.books from on
  again_found = subst (λ (q : AuctionValue). from < length q.rules.bidders → on < length q.rules.nodes → slice_index_or (bidder_at q from).bid_on on false ≡ has_bid a.books from on) seen (flag_here a from on) in_bidders in_nodes

  pub over_found : (eligibility : ℕ) → eligibility ≡ (row_at a.bidders.items from).eligibility
      → nat_lt (bidder_at q from).eligibility (activity_with_bid q from on) ≡ nat_lt eligibility (units.activity_with a.definition.nodes a.books a.outcome from on)
  over_found eligibility e = both _ _ _ _ (ap (λ (v : BidderState). v.eligibility) (bidder_found a q seen from in_bidders) ∙ sym e) (activity_with_found a kept q seen from on in_bidders in_nodes)
    where
      both : (x y v w : ℕ) → x ≡ y → v ≡ w → nat_lt x v ≡ nat_lt y w
      both x y v w e f = cc

-- whether a number is above another, from a test of the converse
pub above : (x y : ℕ) (fits : Bool) → IsTrue fits ↔ (y ≤ x) → nat_lt x y ≡ not fits
above x y true e = le-ltb x y (e.0 refl)
above x y false e = lt-ltb x y (⊎_elim (λ less. less) (λ more. absurd (both_ways false refl (e.1 more))) (cases_lt x y))

-- whether an amount is a multiple of the step, from the step that was read
pub stepped_at : (a : Inside) (q : AuctionValue) → value_inside a ≡ q → (amount step : ℕ) (is_multiple : Bool) → is_multiple ≡ (amount % step == 0) → step ≡ a.definition.step → is_multiple ≡ true → (amount % q.rules.step == 0) ≡ true
stepped_at a q seen amount step is_multiple e f g = ap (λ (q : AuctionValue). amount % q.rules.step == 0) (sym seen) ∙ ap (λ n. amount % n == 0) (sym f) ∙ sym e ∙ g

-- whether the bid exceeds the eligibility that was read
pub over : (a : Inside) → IsKept a → (q : AuctionValue) → value_inside a ≡ q → (b n amount place : ℕ) → b < length q.rules.bidders → n < length q.rules.nodes
    → (row : BidderRow) → row ≡ get_or a.bidders.items place row → place ≡ b → (tree : TreeRules) → tree ≡ tree_of a.definition
    → (fits : Bool) → IsTrue fits ↔ (units.activity_with tree.nodes a.books a.outcome b n ≤ row.eligibility)
    → nat_lt (bidder_at q b).eligibility (activity_with_bid q b n) ≡ not fits
over a kept q seen b n amount place h k row found same tree is fits e =
    let within : b < length a.bidders.items = omega (arith, kept.rows, h, ap (λ (q : AuctionValue). length q.rules.bidders) seen) in
    over_found a kept q seen b n amount h k row.eligibility (ap (λ (r : BidderRow). r.eligibility) (row_found a.bidders.items place b row found same within))
    ∙ ap (λ (t : TreeRules). nat_lt row.eligibility (units.activity_with t.nodes a.books a.outcome b n)) (sym is)
    ∙ above row.eligibility (units.activity_with tree.nodes a.books a.outcome b n) fits e
