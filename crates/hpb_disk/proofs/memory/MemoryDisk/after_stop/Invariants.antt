use Rattle.std.proofs.Common.{◌≡◌, drop}
use Rattle.hpb_disk.specs.Fates.{stopped}
use Rattle.hpb_disk.specs.Records.{writes_of}
use Rattle.hpb_disk.proofs.memory.MemoryDisk.after_stop.Given as goal

abbrev pub invariant-loop-done : goal.invariant-loop-done
invariant-loop-done l =
    stopped (writes_of (drop l.done-index l.done-items)) l.fates l.image.items
    ≡ stopped (writes_of (drop l.fn.self.covered l.fn.self.done.items)) l.fn.pick l.fn.self.base.items
