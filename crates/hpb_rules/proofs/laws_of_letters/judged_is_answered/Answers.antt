use Rattle.hpb_rules.proofs.Letters
use Rattle.hpb_rules.proofs.laws_of_letters.judged_is_answered.Goals as goal

pub returns : goal.returns
returns c = Letters.judged_is_answered
