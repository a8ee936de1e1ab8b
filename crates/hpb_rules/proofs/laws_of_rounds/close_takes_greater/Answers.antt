use Rattle.hpb_rules.proofs.Bids
use Rattle.hpb_rules.proofs.laws_of_rounds.close_takes_greater.Goals as goal

pub returns : goal.returns
returns c = Bids.close_takes_greater
