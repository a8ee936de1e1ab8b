use Rattle.hpb_rules.proofs.NodePrices
use Rattle.hpb_rules.proofs.laws.prices_prove.Goals as goal

pub returns : goal.returns
returns c = NodePrices.prices_prove
