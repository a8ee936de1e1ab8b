use Rattle.std.proofs.Common.{refl, rules}
use Rattle.hpb_run.specs.Device.{start_of}
use Rattle.hpb_run.proofs.SessionRuns.{session_ran, session_well}
use Rattle.hpb_run.proofs.running.run_device.Goals as goal

pub returns-clause-ran : goal.returns-clause-ran
returns-clause-ran g c history keeps =
    let ran = c.run_engine.ensures.ran history keeps in (ran.0, search (ran.1, rules), ran.2)

pub returns-clause-text : goal.returns-clause-text
returns-clause-text g c history keeps =
    let ran = c.run_engine.result in
    let text = session_ran _ _ (start_of c.args.engine history) ran.engine ran.end refl (c.run_engine.ensures.ran history keeps) in
    search (text, rules)

pub returns-clause-well : goal.returns-clause-well
returns-clause-well g c history keeps never none =
    let ran = c.run_engine.result in
    let start = start_of c.args.engine history in
    let well = session_well _ _ start ran.engine ran.end (session_ran _ _ start ran.engine ran.end refl (c.run_engine.ensures.ran history keeps)) never none in
    search (well, rules)
