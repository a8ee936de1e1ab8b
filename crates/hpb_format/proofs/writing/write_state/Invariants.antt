use Rattle.std.specs.Prelude.{Ok}
use Rattle.hpb_format.specs.Asking.{Writes, writes_chunks}
use Rattle.hpb_slots.specs.declared.slot.Slot.TheVariants.{First}
use Rattle.hpb_slots.specs.Slots.{HasChunks}
use Rattle.hpb_format.specs.Stages.{ChangesBody}
use Rattle.hpb_format.proofs.writing.write_state.Given as goal

-- The chunks so far are written, and nothing but the body changed.
abbrev pub invariant-loop-i : goal.invariant-loop-i
invariant-loop-i g l = record {
  written : HasChunks First l.i l.state (g.D.Disk.device l.disk).seen;
  rest : ChangesBody (g.D.Disk.device l.fn.disk).seen (g.D.Disk.device l.disk).seen;
  calls : Writes {T = Unit {0}} {E = Unit {0}} (Ok tt) (writes_chunks l.i l.state) (g.D.Disk.device l.fn.disk) (g.D.Disk.device l.disk);
}
