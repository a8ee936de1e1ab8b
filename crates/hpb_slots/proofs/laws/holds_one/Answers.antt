use Rattle.hpb_slots.proofs.OneNewest as newest
use Rattle.hpb_slots.proofs.laws.holds_one.Goals as goal

pub returns : goal.returns
returns c = newest.holds_one c.states_are_one.ensures.bodies
