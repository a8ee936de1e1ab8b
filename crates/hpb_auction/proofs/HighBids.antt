-- The high bids of the books are those of the value, so the tables say what follows from the value.
use Rattle.std.proofs.Common.{◌≡◌, ℕ, ◌<◌, ◌≤◌, length, Option, Some, None, refl, sym, ap, ◌∙◌, ⊎_elim, arith, subst}
use Rattle.std.specs.Prelude.{IfSome, slice_index}
use Rattle.std.proofs.lemmas.Bool.{cases_lt}
use Rattle.hpb_rules.specs.declared.command.Offer.{Offer}
use Rattle.hpb_rules.specs.Tree.{Rules}
use Rattle.hpb_rules.specs.Choices.{is_in, winners, revenue}
use Rattle.hpb_rules.specs.Prices.{price, minimum}
use Rattle.hpb_rules.specs.History.{amount_of}
use Rattle.hpb_rules.specs.AuctionValue.{AuctionValue, NodeBids}
use Rattle.hpb_rules.specs.Values.{high_bid_in, wins_in, revenue_in, price_in, minimum_in}
use Rattle.hpb_rules.specs.ValueLaws.{IsBestChoice}
use Rattle.hpb_rules.proofs.RunLaws.{best_choice}
use Rattle.hpb_bids.specs.View.{offer_at, bid_of}
use Rattle.hpb_auction.specs.declared.auction.Auction.TheInside.{Inside}
use Rattle.hpb_auction.specs.Inside.{value_inside, IsOfferOf, IsKept}
use Rattle.hpb_auction.proofs.Tables.{node_here, no_node_here}

-- no bid stands at a place behind the definition's nodes
pub none_past : (rules : Rules) (n : ℕ) (o : Option Offer) → IfSome o (IsOfferOf rules n) → length rules.nodes ≤ n → o ≡ None
none_past rules n None h k = refl
none_past rules n (Some x) h k = absurd (omega (arith, h.0))

module _ (a : Inside) (kept : IsKept a) where
  pub bids_here : bid_of a.books ≡ high_bid_in (value_inside a)
  bids_here = λ i. λ n. at n i
    where
      at : (n : ℕ) → bid_of a.books n ≡ high_bid_in (value_inside a) n
      at n = ⊎_elim
          (λ less. sym (ap (λ (bids : NodeBids). amount_of bids.high) (node_here a n less)))
          (λ more. ap amount_of (none_past a.definition n (offer_at a.books.standing n) (kept.bids.standing n) more) ∙ sym (ap (λ (bids : NodeBids). amount_of bids.high) (no_node_here a n more)))
          (cases_lt n (length a.definition.nodes))

  pub wins_here : (n : ℕ) → n < length a.definition.nodes → is_in a.outcome.wins n ≡ is_in (wins_in (value_inside a)) n
  wins_here n h = kept.tables.reached.wins n h ∙ ap (λ (bid : ℕ → ℕ). is_in (winners a.definition.nodes bid) n) bids_here

  pub revenue_here : a.outcome.revenue ≡ revenue_in (value_inside a)
  revenue_here = kept.tables.reached.revenue ∙ ap (λ (bid : ℕ → ℕ). revenue bid (winners a.definition.nodes bid)) bids_here

  pub price_here : (n : ℕ) → n < length a.definition.nodes → slice_index a.prices.prices n ≡ price_in (value_inside a) n
  price_here n h = kept.tables.prices n h ∙ ap (λ (bid : ℕ → ℕ). price a.definition.nodes bid n) bids_here

  pub minimum_here : (n : ℕ) → n < length a.definition.nodes → slice_index a.prices.minima n ≡ minimum_in (value_inside a) n
  minimum_here n h = kept.tables.minima n h ∙ ap (λ (bid : ℕ → ℕ). minimum a.definition bid n) bids_here

-- the same for the value that is seen
module _ (a : Inside) (kept : IsKept a) (value : AuctionValue) (seen : value_inside a ≡ value) where
  pub revenue_found : a.outcome.revenue ≡ revenue_in value
  revenue_found = revenue_here a kept ∙ ap revenue_in seen

  -- a node of the value is one of the definition
  inside : (n : ℕ) → n < length value.rules.nodes → n < length a.definition.nodes
  inside n h = subst (λ (value : AuctionValue). n < length value.rules.nodes) (sym seen) h

  pub wins_found : (n : ℕ) → n < length value.rules.nodes → is_in a.outcome.wins n ≡ is_in (wins_in value) n
  wins_found n h = wins_here a kept n (inside n h) ∙ ap (λ (value : AuctionValue). is_in (wins_in value) n) seen

  pub price_found : (n : ℕ) → n < length value.rules.nodes → slice_index a.prices.prices n ≡ price_in value n
  price_found n h = price_here a kept n (inside n h) ∙ ap (λ (value : AuctionValue). price_in value n) seen

  pub minimum_found : (n : ℕ) → n < length value.rules.nodes → slice_index a.prices.minima n ≡ minimum_in value n
  minimum_found n h = minimum_here a kept n (inside n h) ∙ ap (λ (value : AuctionValue). minimum_in value n) seen

  pub best_found : IsBestChoice value
  best_found = subst IsBestChoice seen (best_choice (value_inside a) kept.tree)
