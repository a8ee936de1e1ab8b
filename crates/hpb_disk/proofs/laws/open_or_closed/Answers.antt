use Rattle.hpb_disk.proofs.GateBytes
use Rattle.hpb_disk.proofs.laws.open_or_closed.Goals as goal

pub returns : goal.returns
returns c = GateBytes.open_or_closed
