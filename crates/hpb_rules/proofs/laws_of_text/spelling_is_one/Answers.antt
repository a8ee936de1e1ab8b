use Rattle.hpb_rules.proofs.Spellings
use Rattle.hpb_rules.proofs.laws_of_text.spelling_is_one.Goals as goal

pub returns : goal.returns
returns c = Spellings.spelling_is_one
