use Rattle.hpb_rules.proofs.Runs
use Rattle.hpb_rules.proofs.laws_of_values.run_is_shown.Goals as goal

pub returns : goal.returns
returns c = Runs.run_is_shown
