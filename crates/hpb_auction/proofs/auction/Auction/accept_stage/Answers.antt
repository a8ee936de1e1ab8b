use Rattle.std.proofs.Common.{sym, ap, ◌∙◌, ◌+◌, subst}
use Rattle.hpb_rules.specs.AuctionValue.{AuctionValue}
use Rattle.hpb_rules.specs.Drafts.{draft_refusal}
use Rattle.hpb_rules.specs.ProperValues.{IsProper}
use Rattle.hpb_rules.specs.Values.{changed}
use Rattle.hpb_auction.specs.Inside.{value_inside}
use Rattle.hpb_auction.proofs.Kept.{told_kept}
use Rattle.hpb_auction.proofs.Proper.{taken_proper, stage_taken}
use Rattle.hpb_auction.proofs.auction.Auction.accept_stage.Goals as goal

pub returns : goal.returns
returns c =
    stage_taken (value_inside c.self.inside) c.args.accepted c.requires.command (c.requires.count ∙ ap (λ (value : AuctionValue). value.count + 1) (sym c.self.view_is))
    ∙ ap (λ (value : AuctionValue). changed value c.args.accepted.command) c.self.view_is

pub invariant_of-self : goal.invariant_of-self
invariant_of-self c =
    told_kept c.self.inside c.self.invariant
    (subst IsProper (sym (returns c)) (taken_proper c.args.self.now c.args.accepted.command c.args.accepted.number (ap (λ (value : AuctionValue). draft_refusal value.rules) (sym c.self.view_is) ∙ c.self.invariant.accepted) (subst IsProper c.self.view_is c.self.invariant.proper) c.requires.new c.requires.count))
