use Rattle.hpb_rules.proofs.Money
use Rattle.hpb_rules.proofs.laws.shares_are_one.Goals as goal

pub returns : goal.returns
returns c = Money.shares_are_one
