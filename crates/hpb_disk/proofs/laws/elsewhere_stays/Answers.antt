use Rattle.hpb_disk.proofs.Regions
use Rattle.hpb_disk.proofs.laws.elsewhere_stays.Goals as goal

pub returns : goal.returns
returns c = Regions.part_elsewhere
