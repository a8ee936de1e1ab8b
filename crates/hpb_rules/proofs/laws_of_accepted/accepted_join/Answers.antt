use Rattle.hpb_rules.proofs.AcceptedRuns
use Rattle.hpb_rules.proofs.laws_of_accepted.accepted_join.Goals as goal

pub returns : goal.returns
returns c = AcceptedRuns.accepted_join
