use Rattle.hpb_recover.proofs.ImageReading as reading
use Rattle.hpb_recover.proofs.laws_of_images.reading_is_one.Goals as goal

pub returns : goal.returns
returns c = reading.reading_is_one c.heads_are_one.ensures c.newest_is_one.ensures c.shapes_are_journal.ensures
