use Rattle.hpb_rules.proofs.ProperValues.{next_is_proper}
use Rattle.hpb_rules.proofs.laws_of_saved.next_is_proper.Goals as goal

pub returns : goal.returns
returns c = next_is_proper
