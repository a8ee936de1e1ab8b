use Rattle.hpb_rules.proofs.Letters
use Rattle.hpb_rules.proofs.laws_of_letters.fits_grow.Goals as goal

pub returns : goal.returns
returns c = Letters.fits_grow
