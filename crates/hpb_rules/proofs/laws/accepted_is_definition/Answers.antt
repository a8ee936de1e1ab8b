use Rattle.hpb_rules.proofs.AcceptedDrafts
use Rattle.hpb_rules.proofs.laws.accepted_is_definition.Goals as goal

pub returns : goal.returns
returns c = AcceptedDrafts.accepted_exactly
