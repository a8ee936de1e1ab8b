use Rattle.hpb_rules.proofs.NumberWords
use Rattle.hpb_rules.proofs.laws_of_text.number_is_one.Goals as goal

pub returns : goal.returns
returns c = NumberWords.number_is_one
