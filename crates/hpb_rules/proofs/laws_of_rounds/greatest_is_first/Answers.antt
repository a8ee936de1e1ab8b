use Rattle.hpb_rules.proofs.Bids
use Rattle.hpb_rules.proofs.laws_of_rounds.greatest_is_first.Goals as goal

pub returns : goal.returns
returns c = Bids.greatest_is_first
