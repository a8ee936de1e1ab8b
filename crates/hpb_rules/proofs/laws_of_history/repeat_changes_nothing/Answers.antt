use Rattle.hpb_rules.proofs.Pasts
use Rattle.hpb_rules.proofs.laws_of_history.repeat_changes_nothing.Goals as goal

pub returns : goal.returns
returns c = Pasts.repeat_changes_nothing
