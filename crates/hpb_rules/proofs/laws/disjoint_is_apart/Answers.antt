use Rattle.hpb_rules.proofs.GoingUp
use Rattle.hpb_rules.proofs.laws.disjoint_is_apart.Goals as goal

pub returns : goal.returns
returns c = GoingUp.disjoint_is_apart
