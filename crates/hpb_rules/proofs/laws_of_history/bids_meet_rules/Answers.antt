use Rattle.hpb_rules.proofs.AcceptedBids
use Rattle.hpb_rules.proofs.laws_of_history.bids_meet_rules.Goals as goal

pub returns : goal.returns
returns c = AcceptedBids.bids_meet_rules
