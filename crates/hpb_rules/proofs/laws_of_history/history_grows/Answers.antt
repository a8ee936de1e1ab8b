use Rattle.hpb_rules.proofs.Pasts
use Rattle.hpb_rules.proofs.laws_of_history.history_grows.Goals as goal

pub returns : goal.returns
returns c = Pasts.history_grows
