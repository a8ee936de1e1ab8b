use Rattle.hpb_rules.proofs.NewCommands
use Rattle.hpb_rules.proofs.laws_of_history.accepted_is_new.Goals as goal

pub returns : goal.returns
returns c = NewCommands.accepted_is_new
