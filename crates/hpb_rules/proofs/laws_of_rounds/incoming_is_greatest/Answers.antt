use Rattle.hpb_rules.proofs.HighBids
use Rattle.hpb_rules.proofs.laws_of_rounds.incoming_is_greatest.Goals as goal

pub returns : goal.returns
returns c = HighBids.incoming_is_greatest
