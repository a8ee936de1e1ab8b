use Rattle.hpb_rules.proofs.Pasts
use Rattle.hpb_rules.proofs.laws_of_history.front_is_history.Goals as goal

pub returns : goal.returns
returns c = Pasts.front_is_history
