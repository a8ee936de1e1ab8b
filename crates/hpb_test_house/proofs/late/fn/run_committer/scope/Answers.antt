use denote.Param.Send.{sendable}
use Rattle.hpb_house.proofs.Crossing.{House-sync, Incoming-send}
use Rattle.hpb_test_house.proofs.late.fn.run_committer.scope.Goals as goal

-- the committer's thread takes the house and its share
pub spawn-requires-send-F : goal.spawn-requires-send-F
spawn-requires-send-F g c κs within =
    let cross = c.requires.cross in
    let device = cross.0 in
    let wait = cross.1 in
    let name = cross.2 in
    let shared = cross.3 in
    let threads = cross.4 in
    let house = House-sync _ _ _ g.D.Disk g.J.Naming device wait name in
    let incoming = Incoming-send _ g.J.Naming name in
    search sendable depth 20
