use Rattle.std.proofs.Common.{inr}
use Rattle.hpb_program.proofs.serving.serve_kept.Goals as goal

pub returns-in-Err-say_closed-clause-told : goal.returns-in-Err-say_closed-clause-told
returns-in-Err-say_closed-clause-told g c = inr (rw (← c.console.view_is) at c.in-Ok.ensures.told)

pub returns-clause-told : goal.returns-clause-told
returns-clause-told g c = rw (← c.console.view_is) at c.in-Ok.ensures.told
