use Rattle.std.proofs.Common.{◌≡◌, false}
use Rattle.hpb_rules.specs.Machine.{Machine}
use Rattle.hpb_disk.specs.Device.{LeavesOnly}
use Rattle.hpb_engine.specs.Engines.{Keeps}
use Rattle.hpb_engine.specs.Keeping.{StandsFor}
use Rattle.hpb_engine.specs.Checkpoints.{steps_left}
use Rattle.hpb_run.specs.Batches.{moment_of}
use Rattle.hpb_run.proofs.Checkpoints.{Goes}
use Rattle.hpb_run.proofs.checkpoint.checkpoint.Given as goal

abbrev pub invariant-loop-fault : goal.invariant-loop-fault
invariant-loop-fault g l =
    let d = g.D.Disk in
    let old = l.fn.engine in
    let now = l.engine in
    (now.failed ≡ false) × ((d.device now.disk).failures ≡ (d.device old.disk).failures) × Goes old.progress now.progress (moment_of old) (moment_of now)
    × ((machine : Machine) → Keeps old machine → Keeps now machine × LeavesOnly (d.device old.disk) (d.device now.disk) (StandsFor machine))

abbrev pub decreases-loop-fault : goal.decreases-loop-fault
decreases-loop-fault g l = steps_left l.engine.progress
