use Rattle.std.proofs.Common.{◌+◌, arith}
use Rattle.hpb_slots.specs.Slots.{gate_at}
use Rattle.hpb_slots.proofs.SlotRegions.{two}
use Rattle.hpb_slots.proofs.laws.slots_stay.Goals as goal

pub returns : goal.returns
returns c slot old new same = (
  same (gate_at slot) 1 (omega arith) (omega (arith, two slot)),
  same (gate_at slot + 4096) 16384 (omega arith) (omega (arith, two slot)),
)
