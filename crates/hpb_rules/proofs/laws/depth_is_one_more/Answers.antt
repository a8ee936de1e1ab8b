use Rattle.hpb_rules.proofs.Depths
use Rattle.hpb_rules.proofs.laws.depth_is_one_more.Goals as goal

pub returns : goal.returns
returns c = Depths.depth_is_one_more
