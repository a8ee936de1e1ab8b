use denote.Param.Send.{sendable}
use Rattle.std.proofs.Crossing.{crosses}
use Rattle.hpb_disk.proofs.Crossing.{Memory-send, Trace-send}
use Rattle.hpb_test_sessions.proofs.one_session.run_on_faulty_device.Goals as goal

pub run_on_house-requires-send-D : goal.run_on_house-requires-send-D
run_on_house-requires-send-D g c κs within = search (sendable, crosses, Memory-send, Trace-send) depth 20
