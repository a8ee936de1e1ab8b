use Rattle.std.proofs.Common.{◌∙◌, inr, sym, subst}
use Rattle.std.proofs.lemmas.Result.{err_from_is_err_and}
use Rattle.hpb_recover.specs.Standing.{Stands}
use Rattle.hpb_program.proofs.Doubting.{told_not}
use Rattle.hpb_program.proofs.keeping.start_engine.Goals as goal

pub returns-in-Ok-clause-read : goal.returns-in-Ok-clause-read
returns-in-Ok-clause-read g c = let read = c.in_ok-opened.ensures.read in (read.0, read.1, c.in-Ok.ensures.started.committed ∙ read.2.auction)

pub returns-in-Ok-clause-keeps : goal.returns-in-Ok-clause-keeps
returns-in-Ok-clause-keeps g c = λ history stands. c.in-Ok.ensures.keeps history (subst (Stands history) (sym c.in_ok-opened.ensures.same) stands)

pub returns-in-Ok-clause-told : goal.returns-in-Ok-clause-told
returns-in-Ok-clause-told g c = (c.in_ok-opened.opened.plan, c.in_ok-opened.ensures.plan, c.in_ok-opened.ensures.told)

pub returns-clause-told : goal.returns-clause-told
returns-clause-told g c = inr (c.in_ok-opened.opened.plan, c.in_ok-opened.ensures.plan, c.in_ok-opened.ensures.told)

pub returns-in_err-opened-clause-fault : goal.returns-in_err-opened-clause-fault
returns-in_err-opened-clause-fault g c = let p = err_from_is_err_and c.from_residual.result c.from_residual.ensures.1 in rw (p.1, p.2) c.in_err-opened.ensures.fault

pub returns-in_err-opened-clause-told : goal.returns-in_err-opened-clause-told
returns-in_err-opened-clause-told g c = let p = err_from_is_err_and c.from_residual.result c.from_residual.ensures.1 in rw (p.1, p.2) (told_not _ _ _ _ c.in_err-opened.ensures.fault c.in_err-opened.ensures.untold)
