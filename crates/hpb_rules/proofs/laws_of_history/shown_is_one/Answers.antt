use Rattle.hpb_rules.proofs.Shown
use Rattle.hpb_rules.proofs.laws_of_history.shown_is_one.Goals as goal

pub returns : goal.returns
returns c = Shown.shown_is_one
