use Rattle.hpb_disk.proofs.GateBytes
use Rattle.hpb_disk.proofs.laws.torn_gate_is_a_byte.Goals as goal

pub returns : goal.returns
returns c = GateBytes.torn_gate
