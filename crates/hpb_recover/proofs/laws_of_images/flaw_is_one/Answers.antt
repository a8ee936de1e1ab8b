use Rattle.hpb_recover.proofs.Flawed as flawed
use Rattle.hpb_recover.proofs.laws_of_images.flaw_is_one.Goals as goal

pub returns : goal.returns
returns c = flawed.flaw_is_one c.heads_are_one.ensures
