use Rattle.hpb_rules.proofs.Counts
use Rattle.hpb_rules.proofs.laws_of_rounds.stage_is_count.Goals as goal

pub returns : goal.returns
returns c = Counts.stage_is_count
