use Rattle.std.proofs.Common.{inr}
use Rattle.hpb_program.proofs.running.run_asked.Goals as goal

pub returns-after-file-clause-streams : goal.returns-after-file-clause-streams
returns-after-file-clause-streams g c = rw (c.in-Ok.is, ← c.console.view_is) (inr (g.E.Write.contents c.hint.new.errors, c.hint.ensures, c.run_job.ensures.streams))
