use Rattle.hpb_codec.proofs.FixedLimits
use Rattle.hpb_codec.proofs.laws.limits_are.Goals as goal

pub returns : goal.returns
returns c = FixedLimits.limits_are
