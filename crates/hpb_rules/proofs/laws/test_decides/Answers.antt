use Rattle.hpb_rules.proofs.GoingUp
use Rattle.hpb_rules.proofs.laws.test_decides.Goals as goal

pub returns : goal.returns
returns c = GoingUp.test_decides
