use Rattle.hpb_prices.proofs.LeastBid.{minimum_is, minimum_value}
use Rattle.hpb_prices.proofs.minimum.minimum_bid.Goals as goal

pub returns-clause-value : goal.returns-clause-value
returns-clause-value c = minimum_value c.args.step c.args.percent c.args.opening c.args.price c.requires.some c.ceil_percent.ensures.enough c.ceil_percent.ensures.least c.max.ensures c.round_up.ensures.multiple c.round_up.ensures.enough c.round_up.ensures.least

pub returns-clause-minimum : goal.returns-clause-minimum
returns-clause-minimum c = minimum_is c.args.step c.args.percent c.args.opening c.args.price c.requires.some c.ceil_percent.ensures.enough c.ceil_percent.ensures.least c.max.ensures c.round_up.ensures.multiple c.round_up.ensures.enough c.round_up.ensures.least
