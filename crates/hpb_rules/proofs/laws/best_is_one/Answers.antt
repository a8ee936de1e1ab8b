use Rattle.hpb_rules.proofs.Winners
use Rattle.hpb_rules.proofs.laws.best_is_one.Goals as goal

pub returns : goal.returns
returns c = Winners.best_is_one
