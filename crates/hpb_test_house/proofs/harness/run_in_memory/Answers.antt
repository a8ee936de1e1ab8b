use denote.Param.Send.{sendable}
use Rattle.hpb_disk.proofs.Crossing.{Memory-send}
use Rattle.hpb_test_house.proofs.harness.run_in_memory.Goals as goal

pub run_house-requires-send-D : goal.run_house-requires-send-D
run_house-requires-send-D g c κs within = search (sendable, Memory-send) depth 20
