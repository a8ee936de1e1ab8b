use Rattle.std.proofs.Common.{Some, sym, ap, ◌∙◌, arith, subst}
use Rattle.hpb_rules.specs.Drafts.{draft_refusal}
use Rattle.hpb_rules.specs.ProperValues.{IsProper}
use Rattle.hpb_rules.proofs.ProperValues.{counted_proper}
use Rattle.hpb_auction.specs.Inside.{value_inside}
use Rattle.hpb_auction.specs.Formed.{formed_at_close}
use Rattle.hpb_auction.proofs.Kept.{told_kept}
use Rattle.hpb_auction.proofs.Proper.{taken_proper}
use Rattle.hpb_rules.specs.Saved.{restored_last}
use Rattle.hpb_rules.specs.AuctionValue.{AuctionValue}
use Rattle.hpb_rules.specs.Values.{closed_value}
use Rattle.hpb_auction.proofs.CloseTables.{close_counted}
use Rattle.hpb_auction.proofs.auction.Auction.accept_close.Goals as goal

pub returns-clause-value : goal.returns-clause-value
returns-clause-value c =
    ap (λ (value : AuctionValue). record value { auctioneer = restored_last (Some c.args.accepted) }) (c.self-2.view_is ∙ c.close_round-formed.ensures.value)
    ∙ ap (λ (value : AuctionValue). record (closed_value (record value { count = c.args.accepted.number })) { auctioneer = restored_last (Some c.args.accepted) }) c.self.view_is
    ∙ close_counted c.args.self.now c.args.accepted c.requires.command c.requires.count

pub returns-clause-formed : goal.returns-clause-formed
returns-clause-formed c = c.close_round-formed.ensures.formed ∙ ap formed_at_close c.self.view_is

pub invariant_of-self : goal.invariant_of-self
invariant_of-self c =
    told_kept c.self.inside c.self.invariant
    (counted_proper (value_inside c.self.inside) c.self.invariant.proper c.args.accepted.number (omega (arith, c.requires.count, ap (λ (value : AuctionValue). value.count) c.self.view_is)) c.requires.limit)

pub invariant_of-self-2 : goal.invariant_of-self-2
invariant_of-self-2 c =
    told_kept c.self-2.inside c.self-2.invariant
    (subst IsProper (sym (returns-clause-value c)) (taken_proper c.args.self.now c.args.accepted.command c.args.accepted.number (ap (λ (value : AuctionValue). draft_refusal value.rules) (sym c.self.view_is) ∙ c.self.invariant.accepted) (subst IsProper c.self.view_is c.self.invariant.proper) c.requires.new c.requires.count))
