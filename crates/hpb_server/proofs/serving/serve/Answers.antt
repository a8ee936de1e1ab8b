use Rattle.hpb_server.proofs.Going.{session_goes}
use Rattle.hpb_server.proofs.serving.serve.Goals as goal

pub returns-clause-told : goal.returns-clause-told
returns-clause-told g c = λ state at told is.
    let served = c.serve_lines.ensures.served state at in
    (served.0, served.2, session_goes g.D.Desk.ways _ _ _ _ state served.0 told c.serve_lines.result served.1 is)
