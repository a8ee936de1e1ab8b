use Rattle.hpb_rules.proofs.Letters
use Rattle.hpb_rules.proofs.laws_of_letters.judged_join.Goals as goal

pub returns : goal.returns
returns c = Letters.judged_join
