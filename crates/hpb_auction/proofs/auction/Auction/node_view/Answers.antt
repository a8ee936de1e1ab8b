use Rattle.std.proofs.Common.{ℕ, ◌<◌, length, Option, Some, None, ap, sym, ◌∙◌, subst}
use Rattle.std.specs.Option.{IfSome}
use Rattle.hpb_rules.specs.declared.command.Offer.{Offer}
use Rattle.hpb_rules.specs.Tree.{Rules}
use Rattle.hpb_rules.specs.AuctionValue.{AuctionValue, NodeBids}
use Rattle.hpb_auction.specs.Inside.{IsOfferOf}
use Rattle.hpb_auction.proofs.Tables.{node_found}
use Rattle.hpb_auction.proofs.HighBids.{wins_found, price_found, minimum_found, best_found}
use Rattle.hpb_auction.proofs.auction.Auction.node_view.Goals as goal

pub returns-clause-high : goal.returns-clause-high
returns-clause-high c = c.standing.ensures.value ∙ sym (ap (λ (bids : NodeBids). bids.high) (node_found c.self.inside c.args.self.now c.self.view_is c.args.node c.requires))

pub returns-clause-incoming : goal.returns-clause-incoming
returns-clause-incoming c = c.incoming.ensures.value ∙ sym (ap (λ (bids : NodeBids). bids.incoming) (node_found c.self.inside c.args.self.now c.self.view_is c.args.node c.requires))

pub returns-clause-price : goal.returns-clause-price
returns-clause-price c = c.price.ensures ∙ price_found c.self.inside c.self.invariant c.args.self.now c.self.view_is c.args.node c.requires

pub returns-clause-minimum : goal.returns-clause-minimum
returns-clause-minimum c = c.minimum.ensures ∙ minimum_found c.self.inside c.self.invariant c.args.self.now c.self.view_is c.args.node c.requires

pub returns-clause-wins : goal.returns-clause-wins
returns-clause-wins c = c.is_in_mask.ensures ∙ c.self.invariant.winners c.args.node ∙ wins_found c.self.inside c.self.invariant c.args.self.now c.self.view_is c.args.node c.requires

pub returns-clause-best : goal.returns-clause-best
returns-clause-best c = best_found c.self.inside c.self.invariant c.args.self.now c.self.view_is

-- an offer of the definition is one of its bidders'
by_bidder : (rules : Rules) (node : ℕ) (offer : Option Offer) → IfSome offer (IsOfferOf rules node) → IfSome offer (λ o. o.bidder < length rules.bidders)
by_bidder rules node None kept = kept
by_bidder rules node (Some offer) kept = kept.1

pub returns-clause-bidder : goal.returns-clause-bidder
returns-clause-bidder c =
    let a = c.self.inside in
    subst (λ (value : AuctionValue). IfSome c.standing.result (λ o. o.bidder < length value.rules.bidders)) c.self.view_is
    (subst (λ (offer : Option Offer). IfSome offer (λ o. o.bidder < length a.definition.bidders)) (sym c.standing.ensures.value) (by_bidder a.definition c.args.node _ (c.self.invariant.bids.standing c.args.node)))
