use Rattle.std.proofs.Common.{arith}
use Rattle.hpb_slots.proofs.SlotRegions.{two}
use Rattle.hpb_slots.proofs.reading.slot_is_open.Goals as goal

pub gate_is_open-requires : goal.gate_is_open-requires
gate_is_open-requires g c = omega (arith, c.gate_offset.ensures, c.requires.room, two c.args.slot)
