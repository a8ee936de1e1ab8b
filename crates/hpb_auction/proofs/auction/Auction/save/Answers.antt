use Rattle.std.proofs.Common.{List, sym, ap, ◌∙◌, arith, subst}
use Rattle.hpb_rules.specs.AuctionValue.{AuctionValue}
use Rattle.hpb_rules.specs.Drafts.{draft_refusal}
use Rattle.hpb_rules.specs.ProperValues.{IsProper}
use Rattle.hpb_rules.specs.Saved.{saved_of, restored, IsSaved}
use Rattle.hpb_rules.proofs.SavedValues.{saved_is_restored}
use Rattle.hpb_auction.specs.declared.sender.BidderRow.{BidderRow}
use Rattle.hpb_auction.proofs.SavedTables.{save_seen, row_entry}
use Rattle.hpb_auction.proofs.auction.Auction.save.Goals as goal

pub returns-clause-value : goal.returns-clause-value
returns-clause-value c =
    save_seen c.self.inside c.self.invariant.bids c.self.invariant.rows c.save_nodes.new.nodes c.save_bidders.new.bidders (omega arith) (omega arith)
    (λ n d less. c.save_nodes.ensures n d (omega (arith, less)))
    (λ b d less. c.save_bidders.ensures b d (omega (arith, less)) ∙ ap (λ (items : List BidderRow). row_entry c.self.inside.books items b) c.as_slice.ensures.value)
    ∙ ap saved_of c.self.view_is

pub returns-clause-sound : goal.returns-clause-sound
returns-clause-sound c = subst (IsSaved c.args.self.now.rules) (sym (returns-clause-value c))
    (saved_is_restored c.args.self.now (ap (λ (value : AuctionValue). draft_refusal value.rules) (sym c.self.view_is) ∙ c.self.invariant.accepted) (subst IsProper c.self.view_is c.self.invariant.proper)).0

pub returns-clause-back : goal.returns-clause-back
returns-clause-back c = ap (restored c.args.self.now.rules) (returns-clause-value c)
    ∙ (saved_is_restored c.args.self.now (ap (λ (value : AuctionValue). draft_refusal value.rules) (sym c.self.view_is) ∙ c.self.invariant.accepted) (subst IsProper c.self.view_is c.self.invariant.proper)).1
