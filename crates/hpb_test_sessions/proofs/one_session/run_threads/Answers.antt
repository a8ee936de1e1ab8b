use denote.Param.Send.{sendable}
use Rattle.hpb_test_sessions.proofs.one_session.run_threads.Goals as goal

-- a device, a wait and a name may go to a thread, and the threads be shared; the client waits for nothing
pub scoped-requires : goal.scoped-requires
scoped-requires g c =
    let device = c.type_bounds.send-D in
    let wait = c.type_bounds.send-W in
    let name = c.type_bounds.send-J in
    let shared = c.type_bounds.sync-J in
    let threads = c.type_bounds.sync-R in
    record { at = λ scope. ((search sendable depth 20, search sendable depth 20, search sendable depth 20, search sendable depth 20, search sendable depth 20), (c.requires.idle, (search sendable depth 20, search sendable depth 20, search sendable depth 20, search sendable depth 20, search sendable depth 20))) }
