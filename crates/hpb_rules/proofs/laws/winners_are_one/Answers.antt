use Rattle.hpb_rules.proofs.Winners
use Rattle.hpb_rules.proofs.laws.winners_are_one.Goals as goal

pub returns : goal.returns
returns c = Winners.winners_are_one
