use Rattle.hpb_rules.proofs.SavedValues.{saved_is_restored}
use Rattle.hpb_rules.proofs.laws_of_saved.saved_is_restored.Goals as goal

pub returns : goal.returns
returns c = saved_is_restored
