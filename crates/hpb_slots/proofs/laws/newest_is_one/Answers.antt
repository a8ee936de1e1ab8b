use Rattle.hpb_slots.proofs.OneNewest.{same_newest}
use Rattle.hpb_slots.proofs.laws.newest_is_one.Goals as goal

pub returns : goal.returns
returns c rules slot other index i saved older image one two = same_newest rules slot other index i saved older image one two c.holds_one.ensures
