-- The devices that may cross threads.
use denote.Param.Send.{IsSend, sendable}
use Rattle.std.proofs.Crossing.{crosses}
use Rattle.hpb_disk.proofs.done.Done.TheSendSync as Done
use Rattle.hpb_disk.specs.contracts.file.FileDisk as FileDisk
use Rattle.hpb_disk.specs.contracts.memory.MemoryDisk as MemoryDisk
use Rattle.hpb_disk.specs.contracts.trace.Trace as Trace

-- a trace owns nothing
pub Trace-send : IsSend Trace.the_row
Trace-send = record { owned = λ d vs. ((λ vss. (tt, ((λ uss. (tt, tt)), tt))), tt); leaving = λ k f vs. tt }

-- a device in memory
pub Memory-send : IsSend MemoryDisk.the_row
Memory-send = let t = Trace-send in let d = Done.the_send in search (sendable, crosses) depth 20

-- a device in a file
pub File-send : IsSend FileDisk.the_row
File-send = let t = Trace-send in search (sendable, crosses) depth 20
