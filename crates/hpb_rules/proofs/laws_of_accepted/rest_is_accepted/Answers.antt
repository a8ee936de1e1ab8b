use Rattle.hpb_rules.proofs.AcceptedRuns
use Rattle.hpb_rules.proofs.laws_of_accepted.rest_is_accepted.Goals as goal

pub returns : goal.returns
returns c = AcceptedRuns.rest_is_accepted
