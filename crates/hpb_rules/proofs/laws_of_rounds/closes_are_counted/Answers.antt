use Rattle.hpb_rules.proofs.Counts
use Rattle.hpb_rules.proofs.laws_of_rounds.closes_are_counted.Goals as goal

pub returns : goal.returns
returns c = Counts.closes_are_counted
