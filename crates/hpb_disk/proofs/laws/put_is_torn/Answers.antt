use Rattle.hpb_disk.specs.Traces
use Rattle.hpb_disk.proofs.laws.put_is_torn.Goals as goal

pub returns : goal.returns
returns c = Traces.put_is_torn
