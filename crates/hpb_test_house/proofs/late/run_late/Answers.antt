use denote.Param.Send.{sendable}
use Rattle.std.proofs.Crossing.{crosses}
use Rattle.hpb_disk.proofs.Crossing.{Memory-send, Trace-send}
use Rattle.hpb_test_house.proofs.late.run_late.Goals as goal

-- the device may cross to the committer's thread
pub run_started-requires-send-D : goal.run_started-requires-send-D
run_started-requires-send-D g c κs within = search (sendable, crosses, Memory-send, Trace-send) depth 20
