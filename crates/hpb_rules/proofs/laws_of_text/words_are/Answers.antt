use Rattle.hpb_rules.proofs.RefusalWords
use Rattle.hpb_rules.proofs.laws_of_text.words_are.Goals as goal

pub returns : goal.returns
returns c = RefusalWords.words_are
