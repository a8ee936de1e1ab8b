use Rattle.hpb_rules.proofs.RequestLines
use Rattle.hpb_rules.proofs.laws_of_text.request_is_one.Goals as goal

pub returns : goal.returns
returns c = RequestLines.request_is_one
