use Rattle.hpb_slots.proofs.Pieces.{whole}
use Rattle.hpb_slots.proofs.laws.chunks_are_whole.Goals as goal

pub returns : goal.returns
returns c slot body image size has = whole slot body image has c.states_are_one.ensures.chunks size
