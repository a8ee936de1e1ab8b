use Rattle.hpb_rules.proofs.FixedLimits
use Rattle.hpb_rules.proofs.laws.limits_are.Goals as goal

pub returns : goal.returns
returns c = FixedLimits.limits_are
