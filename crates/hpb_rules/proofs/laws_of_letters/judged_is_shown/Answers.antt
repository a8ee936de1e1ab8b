use Rattle.hpb_rules.proofs.Judged.{judged_is_shown}
use Rattle.hpb_rules.proofs.laws_of_letters.judged_is_shown.Goals as goal

pub returns : goal.returns
returns c = judged_is_shown
