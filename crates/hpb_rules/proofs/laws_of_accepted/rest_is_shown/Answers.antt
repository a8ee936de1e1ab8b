use Rattle.hpb_rules.proofs.AcceptedRuns
use Rattle.hpb_rules.proofs.laws_of_accepted.rest_is_shown.Goals as goal

pub returns : goal.returns
returns c = AcceptedRuns.rest_is_shown
