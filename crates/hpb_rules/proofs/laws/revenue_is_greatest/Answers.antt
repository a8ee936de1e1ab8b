use Rattle.hpb_rules.proofs.Winners
use Rattle.hpb_rules.proofs.laws.revenue_is_greatest.Goals as goal

pub returns : goal.returns
returns c = Winners.revenue_is_greatest
