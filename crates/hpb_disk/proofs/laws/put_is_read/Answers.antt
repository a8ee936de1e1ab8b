use Rattle.hpb_disk.proofs.Regions
use Rattle.hpb_disk.proofs.laws.put_is_read.Goals as goal

pub returns : goal.returns
returns c = Regions.part_put
