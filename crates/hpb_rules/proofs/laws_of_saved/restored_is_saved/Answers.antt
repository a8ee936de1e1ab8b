use Rattle.hpb_rules.proofs.SavedValues.{restored_is_saved}
use Rattle.hpb_rules.proofs.laws_of_saved.restored_is_saved.Goals as goal

pub returns : goal.returns
returns c = restored_is_saved
