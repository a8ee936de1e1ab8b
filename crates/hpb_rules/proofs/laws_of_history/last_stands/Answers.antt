use Rattle.hpb_rules.proofs.LastCommands
use Rattle.hpb_rules.proofs.laws_of_history.last_stands.Goals as goal

pub returns : goal.returns
returns c = LastCommands.last_stands
