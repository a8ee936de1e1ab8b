use Rattle.hpb_recover.proofs.ImageStanding as standing
use Rattle.hpb_recover.proofs.laws_of_images.stands_for_one.Goals as goal

pub returns : goal.returns
returns c = standing.stands_for_one c.heads_are_one.ensures c.newest_is_one.ensures c.shapes_are_journal.ensures
