use Rattle.hpb_recover.proofs.ImageStanding as standing
use Rattle.hpb_recover.proofs.laws_of_images.stands_is_read.Goals as goal

pub returns : goal.returns
returns c = standing.stands_is_read
