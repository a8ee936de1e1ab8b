use Rattle.std.proofs.Common.{rules, sym, ap, ◌∙◌}
use Rattle.hpb_rules.specs.Choices.{is_in}
use Rattle.hpb_winners.specs.View.{OutcomeView}
use Rattle.hpb_auction.proofs.auction.Auction.copy.Goals as goal

pub returns : goal.returns
returns c = rw (c.in_ok-copy.ensures, c.in_ok-copy-2.ensures, c.in_ok-from_slice.ensures.items, c.as_slice.ensures.value) c.self.view_is

pub invariant_of-result : goal.invariant_of-result
invariant_of-result c =
    record {
      accepted = search rules;
      proper = search rules;
      tree = search rules;
      rows = search rules;
      most_rows = search rules;
      bids = search rules;
      tables = search rules;
      holdings = search rules;
      winners = λ node. c.self.invariant.winners node ∙ ap (λ (outcome : OutcomeView). is_in outcome.wins node) (sym c.in_ok-copy-3.ensures);
    }
