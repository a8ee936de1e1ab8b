use denote.Param.Send.{sendable}
use Rattle.std.proofs.Crossing.{crosses}
use Rattle.hpb_disk.proofs.Crossing.{Memory-send, Trace-send}
use Rattle.hpb_test_house.proofs.harness.run_with_fault.Goals as goal

pub run_house-requires-send-D : goal.run_house-requires-send-D
run_house-requires-send-D g c κs within = search (sendable, crosses, Memory-send, Trace-send) depth 20
