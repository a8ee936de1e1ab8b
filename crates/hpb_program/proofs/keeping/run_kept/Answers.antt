use Rattle.std.proofs.lemmas.Result.{err_from_is_err_and}
use Rattle.hpb_server.specs.Streams.{streams}
use Rattle.hpb_program.proofs.Kept.{are_kept, is_run}
use Rattle.hpb_program.proofs.keeping.run_kept.Goals as goal

pub returns-clause-run : goal.returns-clause-run
returns-clause-run g c =
    rw (← c.console.view_is) (is_run (g.D.Disk.device c.args.disk) (streams _ _) (streams _ _) c.in_ok-engine.engine c.run_engine.result.engine c.run_engine.result.end
    c.in_ok-engine.ensures.read c.in_ok-engine.ensures.keeps c.in_ok-engine.ensures.works c.in_ok-engine.ensures.counted c.run_engine.ensures.ran)

pub returns-clause-told : goal.returns-clause-told
returns-clause-told g c = rw (← c.console.view_is) (g.E.Write.contents c.start_engine.new.errors, c.in_ok-engine.ensures.told, c.run_engine.ensures.explained)

pub returns-in_err-engine-clause-fault : goal.returns-in_err-engine-clause-fault
returns-in_err-engine-clause-fault g c = let p = err_from_is_err_and c.from_residual.result c.from_residual.ensures.1 in rw (p.1, p.2) c.in_err-engine.ensures.fault

pub returns-in_err-engine-clause-told : goal.returns-in_err-engine-clause-told
returns-in_err-engine-clause-told g c = let p = err_from_is_err_and c.from_residual.result c.from_residual.ensures.1 in rw (p.1, p.2, ← c.console.view_is) c.in_err-engine.ensures.told
