use Rattle.hpb_rules.proofs.Percentages
use Rattle.hpb_rules.proofs.laws_of_history.percentage_is_known.Goals as goal

pub returns : goal.returns
returns c = Percentages.percentage_is_known
