use Rattle.hpb_rules.proofs.Money
use Rattle.hpb_rules.proofs.laws.minimum_is_one.Goals as goal

pub returns : goal.returns
returns c = Money.minimum_is_one
