use Rattle.hpb_rules.proofs.CarriedShares
use Rattle.hpb_rules.proofs.laws.carried_is_share.Goals as goal

pub returns : goal.returns
returns c = CarriedShares.carried_is_share
