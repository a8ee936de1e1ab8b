use Rattle.hpb_rules.proofs.SavedValues.{shown_is_proper}
use Rattle.hpb_rules.proofs.laws_of_saved.shown_is_proper.Goals as goal

pub returns : goal.returns
returns c = shown_is_proper
