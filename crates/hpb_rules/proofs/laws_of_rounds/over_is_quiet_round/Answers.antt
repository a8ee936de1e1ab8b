use Rattle.hpb_rules.proofs.Cuts
use Rattle.hpb_rules.proofs.laws_of_rounds.over_is_quiet_round.Goals as goal

pub returns : goal.returns
returns c = Cuts.over_is_quiet_round
