use Rattle.hpb_rules.proofs.Letters
use Rattle.hpb_rules.proofs.laws_of_letters.history_after_appends.Goals as goal

pub returns : goal.returns
returns c = Letters.history_after_appends
