-- A saved auction may be restored exactly if its numbers and its entries are in order.
use Rattle.std.proofs.Common.{◌≡◌, ℕ, ◌<◌, ◌≤◌, true, false, get_or, length, Option, Some, None, refl, sym, ap, ◌∙◌, ⊎_elim, arith, subst}
use Rattle.std.specs.Prelude.{IfSome, IsSome}
use Rattle.std.proofs.lemmas.Bool.{cases_lt, both_ways, false_from_ne_true}
use Rattle.std.proofs.lemmas.List.Folds.{list_any_at, Any-from_list_any}
use Rattle.std.specs.List.{list_any}
use Rattle.std.proofs.lemmas.List.{get_or_past}
use Rattle.hpb_rules.specs.declared.command.Offer.{Offer}
use Rattle.hpb_rules.specs.declared.limits.TheConstants.{MOST_BIDDERS, MOST_NODES}
use Rattle.hpb_rules.specs.declared.saved.Saved.{Saved}
use Rattle.hpb_rules.specs.declared.saved.SavedBidder.{SavedBidder}
use Rattle.hpb_rules.specs.declared.saved.SavedNode.{SavedNode}
use Rattle.hpb_rules.specs.History.{auctioneer, bidder, bidder_units}
use Rattle.hpb_rules.specs.ProperValues.{IsOfferOn}
use Rattle.hpb_rules.specs.Saved.{empty_node, empty_bidder, node_in, bidder_in, has_bit, IsSavedLast, IsSaved}
use Rattle.hpb_rules.specs.Tree.{Rules}
use Rattle.hpb_rules.proofs.Masks.{no_bits}
use Rattle.hpb_rules.proofs.Ranges.{any_default}
use Rattle.hpb_rules.proofs.Tests.{no_bit}
use Rattle.hpb_rules.proofs.SavedValues.{same_node}
use Rattle.hpb_bids.specs.Entries.{AreNumbers, IsNodeEntry, IsOwnEntry, IsBidderEntry}

-- the tests of all entries, as statements
abbrev pub AreNodes : Rules → Saved → Type 0
AreNodes rules saved = (n : ℕ) (d : SavedNode) → n < length saved.nodes → IsNodeEntry rules n (get_or saved.nodes n d)

abbrev pub AreBidders : Rules → Saved → Type 0
AreBidders rules saved = (b : ℕ) (d : SavedBidder) → b < length saved.bidders → IsBidderEntry rules saved.count saved.nodes b (get_or saved.bidders b d)

abbrev pub AreQuiet : Saved → Type 0
AreQuiet saved = (n : ℕ) (d : SavedNode) → n < length saved.nodes → (get_or saved.nodes n d).incoming ≡ None

-- ---- a saved auction that may be restored is in order
module _ (rules : Rules) (saved : Saved) (is : IsSaved rules saved) where
  pub numbers_of : AreNumbers rules saved
  numbers_of = record { stage = is.stage; round = (is.round.0, omega (arith, is.round.1)); count = is.count }

  pub nodes_of : AreNodes rules saved
  nodes_of n d less = subst (IsNodeEntry rules n) (any_default saved.nodes n empty_node d less) (is.high n, is.incoming n)

  pub bidders_of : AreBidders rules saved
  bidders_of b d less = subst (IsBidderEntry rules saved.count saved.nodes b) (any_default saved.bidders b empty_bidder d less) (
    λ more. is.bidders_past b more,
    λ within. record { eligibility = is.eligibility b; last = is.last b; bits = λ node e. (is.bits b node e).1; waivers = is.waivers b; fewer = is.fewer b },
  )

  pub waived_of : saved.over ≡ true → list_any (λ (entry : SavedBidder). entry.has_waived) saved.bidders ≡ false
  waived_of over = false_from_ne_true _ (λ e.
      let r = Any-from_list_any (λ (entry : SavedBidder). entry.has_waived) saved.bidders e in
      both_ways (bidder_in saved r.0).has_waived (is.over_waivers over r.0) (ap (λ (entry : SavedBidder). entry.has_waived) (any_default saved.bidders r.0 empty_bidder r.1 r.2 ∙ r.3) ∙ r.4))

  pub quiet_of : saved.over ≡ true → AreQuiet saved
  quiet_of over n d less = subst (λ (entry : SavedNode). entry.incoming ≡ None) (any_default saved.nodes n empty_node d less) (is.over_nodes over n)

-- ---- a saved auction that is in order may be restored
module _ (rules : Rules) (saved : Saved) (node_entries : length saved.nodes ≡ MOST_NODES) (bidder_entries : length saved.bidders ≡ MOST_BIDDERS)
    (numbers : AreNumbers rules saved) (told : IfSome saved.auctioneer (IsSavedLast rules saved.count auctioneer))
    (nodes : AreNodes rules saved) (bidders : AreBidders rules saved) (quiet : saved.over ≡ true → AreQuiet saved) (unwaived : saved.over ≡ true → list_any (λ (entry : SavedBidder). entry.has_waived) saved.bidders ≡ false) where
  node_entry : (node : ℕ) → IsNodeEntry rules node (node_in saved node)
  node_entry node = ⊎_elim
      (λ less. nodes node empty_node less)
      (λ more. subst (IsNodeEntry rules node) (sym (get_or_past saved.nodes node empty_node more)) (tt, tt))
      (cases_lt node (length saved.nodes))

  no_offer : (node : ℕ) (offer : Option Offer) → IfSome offer (IsOfferOn rules node) → length rules.nodes ≤ node → offer ≡ None
  no_offer node None meets more = refl
  no_offer node (Some offer) meets more = absurd (omega (arith, meets.known_node))

  some_in : (node : ℕ) (offer : Option Offer) → IfSome offer (IsOfferOn rules node) → IsSome offer → node < length rules.nodes
  some_in node None meets some = absurd (both_ways _ refl some)
  some_in node (Some offer) meets some = meets.known_node

  -- a property of each entry of a bidder holds of all of them
  each_entry : (P : ℕ → SavedBidder → Type 0) → ((from : ℕ) (entry : SavedBidder) → IsOwnEntry rules saved.count saved.nodes from entry → P from entry) → ((from : ℕ) → P from empty_bidder) → (from : ℕ) → P from (bidder_in saved from)
  each_entry P own empty from = ⊎_elim
      (λ less. ⊎_elim
      (λ within. own from (bidder_in saved from) ((bidders from empty_bidder less).1 within))
      (λ past. subst (P from) (sym ((bidders from empty_bidder less).0 past)) (empty from))
      (cases_lt from (length rules.bidders)))
      (λ more. subst (P from) (sym (get_or_past saved.bidders from empty_bidder more)) (empty from))
      (cases_lt from (length saved.bidders))

  past_bidder : (from : ℕ) → length rules.bidders ≤ from → bidder_in saved from ≡ empty_bidder
  past_bidder from past = ⊎_elim
      (λ less. (bidders from empty_bidder less).0 past)
      (λ more. get_or_past saved.bidders from empty_bidder more)
      (cases_lt from (length saved.bidders))

  bits_in : (from node : ℕ) → has_bit (bidder_in saved from).bid_on node ≡ true → IsSome (node_in saved node).incoming
  bits_in from node = each_entry (λ from entry. has_bit entry.bid_on node ≡ true → IsSome (node_in saved node).incoming)
      (λ from entry own e. own.bits node e)
      (λ from e. absurd (no_bit_set node e)) from
    where
      no_bit_set : (node : ℕ) → has_bit 0 node ≡ true → ⊥
      no_bit_set node e = both_ways _ (no_bit 0 node refl) e

  over_in : saved.over ≡ true → (node : ℕ) → (node_in saved node).incoming ≡ None
  over_in over node = ⊎_elim
      (λ less. quiet over node empty_node less)
      (λ more. ap (λ (entry : SavedNode). entry.incoming) (get_or_past saved.nodes node empty_node more))
      (cases_lt node (length saved.nodes))

  over_waivers_in : saved.over ≡ true → (from : ℕ) → (bidder_in saved from).has_waived ≡ false
  over_waivers_in over from = ⊎_elim
      (λ less. false_from_ne_true _ (λ e. both_ways _ (unwaived over) (list_any_at (λ (entry : SavedBidder). entry.has_waived) saved.bidders from empty_bidder less e)))
      (λ more. ap (λ (entry : SavedBidder). entry.has_waived) (get_or_past saved.bidders from empty_bidder more))
      (cases_lt from (length saved.bidders))

  pub is_saved_of : IsSaved rules saved
  is_saved_of = record {
    node_entries = node_entries;
    bidder_entries = bidder_entries;
    stage = numbers.stage;
    round = (numbers.round.0, omega (arith, numbers.round.1));
    count = numbers.count;
    nodes_past = λ node past. same_node (no_offer node (node_in saved node).high (node_entry node).0 past) (no_offer node (node_in saved node).incoming (node_entry node).1 past);
    bidders_past = past_bidder;
    high = λ node. (node_entry node).0;
    incoming = λ node. (node_entry node).1;
    eligibility = each_entry (λ from entry. entry.eligibility ≤ bidder_units rules from) (λ from entry own. own.eligibility) (λ from. omega arith);
    waivers = each_entry (λ from entry. entry.waivers ≤ rules.waivers) (λ from entry own. own.waivers) (λ from. omega arith);
    fewer = each_entry (λ from entry. entry.has_waived ≡ true → entry.waivers < rules.waivers) (λ from entry own. own.fewer) (λ from e. absurd (both_ways false refl e));
    last = each_entry (λ from entry. IfSome entry.last (IsSavedLast rules saved.count (bidder from))) (λ from entry own. own.last) (λ from. tt);
    auctioneer = told;
    bits = λ from node e. let some : IsSome (node_in saved node).incoming = bits_in from node e in (some_in node (node_in saved node).incoming (node_entry node).1 some, some);
    over_nodes = over_in;
    over_waivers = over_waivers_in;
    over_bits = λ over from. no_bits (bidder_in saved from).bid_on (λ node e. both_ways _ refl (subst (λ (offer : Option Offer). IsSome offer) (over_in over node) (bits_in from node e)));
  }
