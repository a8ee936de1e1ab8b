use Rattle.std.proofs.Common.{inl, refl}
use Rattle.std.proofs.KnownBytes.{Keeps-refl}
use Rattle.hpb_run.specs.Device.{start_of}
use Rattle.hpb_run.proofs.Standings.{starts, untold}
use Rattle.hpb_run.proofs.running.run_engine.Goals as goal

pub returns-in-Ok-clause-ran : goal.returns-in-Ok-clause-ran
returns-in-Ok-clause-ran g c = λ history keeps.
    let served = c.serve_desk-end.ensures.served (start_of c.args.engine history) (c.in-Ok.ensures.stands history keeps) in
    (served.0, served.1, rw c.into_engine.ensures served.2.0.0)

pub returns-in-Err-clause-ran : goal.returns-in-Err-clause-ran
returns-in-Err-clause-ran g c = λ history keeps.
    let engine = c.args.engine in
    (start_of engine history, inl (refl, (Keeps-refl _, Keeps-refl _), refl), rw c.in-Err.ensures.back (starts engine history keeps).0)

pub returns-in-Err-clause-explained : goal.returns-in-Err-clause-explained
returns-in-Err-clause-explained g c = untold c.args.session.now.is_terminal _
