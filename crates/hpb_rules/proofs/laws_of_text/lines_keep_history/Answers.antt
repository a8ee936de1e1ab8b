use Rattle.hpb_rules.proofs.TextHistories
use Rattle.hpb_rules.proofs.laws_of_text.lines_keep_history.Goals as goal

pub returns : goal.returns
returns c = TextHistories.lines_keep_history
