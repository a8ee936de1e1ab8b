use Rattle.std.proofs.Common.{◌∙◌}
use Rattle.hpb_auction.proofs.HighBids.{revenue_found, best_found}
use Rattle.hpb_auction.proofs.auction.Auction.revenue.Goals as goal

pub returns-clause-value : goal.returns-clause-value
returns-clause-value c = c.revenue.ensures.value ∙ revenue_found c.self.inside c.self.invariant c.args.self.now c.self.view_is

pub returns-clause-best : goal.returns-clause-best
returns-clause-best c = best_found c.self.inside c.self.invariant c.args.self.now c.self.view_is
