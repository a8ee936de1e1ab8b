use Rattle.hpb_rules.proofs.Cuts
use Rattle.hpb_rules.proofs.laws_of_rounds.rounds_are_cut.Goals as goal

pub returns : goal.returns
returns c = Cuts.rounds_are_cut
