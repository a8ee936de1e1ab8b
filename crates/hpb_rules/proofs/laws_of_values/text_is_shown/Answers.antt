use Rattle.hpb_rules.proofs.ValueTexts
use Rattle.hpb_rules.proofs.laws_of_values.text_is_shown.Goals as goal

pub returns : goal.returns
returns c = ValueTexts.text_is_shown
