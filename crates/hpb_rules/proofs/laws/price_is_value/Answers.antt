use Rattle.hpb_rules.proofs.NodePrices
use Rattle.hpb_rules.proofs.laws.price_is_value.Goals as goal

pub returns : goal.returns
returns c = NodePrices.price_is_value
