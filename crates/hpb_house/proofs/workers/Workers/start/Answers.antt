use denote.Param.Send.{sendable}
use Rattle.hpb_house.proofs.Crossing.{House-sync, Incoming-send}
use Rattle.hpb_house.proofs.workers.Workers.start.Goals as goal

-- the committer's thread takes the house, what has come, and its gate
pub spawn_with-requires-send-F : goal.spawn_with-requires-send-F
spawn_with-requires-send-F g c κs within =
    let t = c.type_bounds in
    let house = House-sync _ _ _ g.D.Disk g.J.Naming t.send-D t.send-W t.send-J in
    let incoming = Incoming-send _ g.J.Naming t.send-J in
    search sendable depth 20

-- the checkpointer's takes the house and its gate
pub spawn-requires-send-F : goal.spawn-requires-send-F
spawn-requires-send-F g c κs within =
    let t = c.type_bounds in
    let house = House-sync _ _ _ g.D.Disk g.J.Naming t.send-D t.send-W t.send-J in
    search sendable depth 20
