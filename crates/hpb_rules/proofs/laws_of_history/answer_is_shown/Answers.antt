use Rattle.hpb_rules.proofs.Shown
use Rattle.hpb_rules.proofs.laws_of_history.answer_is_shown.Goals as goal

pub returns : goal.returns
returns c = Shown.answer_is_shown
