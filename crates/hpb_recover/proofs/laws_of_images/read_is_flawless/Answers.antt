use Rattle.hpb_recover.proofs.Flawed as flawed
use Rattle.hpb_recover.proofs.laws_of_images.read_is_flawless.Goals as goal

pub returns : goal.returns
returns c = flawed.read_is_flawless c.heads_are_one.ensures c.newest_is_one.ensures c.shapes_are_journal.ensures
