use Rattle.hpb_rules.proofs.Bids
use Rattle.hpb_rules.proofs.laws_of_rounds.eligibility_is_greatest.Goals as goal

pub returns : goal.returns
returns c = Bids.eligibility_is_greatest
