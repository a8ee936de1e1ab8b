use Rattle.std.proofs.Common.{◌∙◌, Err, ap, inl, inr, refl, subst}
use Rattle.std.proofs.KnownBytes.{Keeps-refl}
use Rattle.std.proofs.lemmas.Result.{err_from_is_err_and}
use Rattle.hpb_program.specs.ConsoleValue.{ConsoleValue}
use Rattle.hpb_program.specs.Jobs.{check_text, ShowsKept}
use Rattle.hpb_program.proofs.Doubting.{cut_not, shown_not, told_not}
use Rattle.hpb_program.proofs.Ends.{shown_short, shown_well}
use Rattle.hpb_program.proofs.checking.check_device.Goals as goal

pub returns-in_err-text-clause-shows : goal.returns-in_err-text-clause-shows
returns-in_err-text-clause-shows g c = let p = err_from_is_err_and c.from_residual-in_err-text.result c.from_residual-in_err-text.ensures.1 in rw (p.1, p.2, ← c.console.view_is) (Keeps-refl _, inl refl)

pub returns-in-Ok-clause-shows : goal.returns-in-Ok-clause-shows
returns-in-Ok-clause-shows g c =
    rw (← c.console.view_is) (shown_well (g.D.Disk.device c.args.disk).seen c.in_ok-opened.opened.plan.auction _ _ c.as_bytes.result.now c.in_ok-opened.ensures.shows (c.as_bytes.ensures ∙ c.in_ok-text.ensures ∙ ap check_text c.auction.ensures) c.in-Ok.ensures.bytes)

pub returns-clause-shows : goal.returns-clause-shows
returns-clause-shows g c =
    rw (← c.console.view_is) (shown_short (g.D.Disk.device c.args.disk).seen c.in_ok-opened.opened.plan.auction _ _ c.as_bytes.result.now c.in-Err.field-0 c.in_ok-opened.ensures.shows (c.as_bytes.ensures ∙ c.in_ok-text.ensures ∙ ap check_text c.auction.ensures) c.in-Err.ensures.bytes)

pub returns-in_err-text-clause-told : goal.returns-in_err-text-clause-told
returns-in_err-text-clause-told g c = let p = err_from_is_err_and c.from_residual-in_err-text.result c.from_residual-in_err-text.ensures.1 in rw (p.1, p.2, ← c.console.view_is) (inr (c.in_ok-opened.opened.plan, c.in_ok-opened.ensures.plan, c.in_ok-opened.ensures.told))

pub returns-in-Ok-clause-told : goal.returns-in-Ok-clause-told
returns-in-Ok-clause-told g c = rw (← c.console.view_is) (c.in_ok-opened.opened.plan, c.in_ok-opened.ensures.plan, c.in_ok-opened.ensures.told)

pub returns-clause-told : goal.returns-clause-told
returns-clause-told g c = rw (← c.console.view_is) (c.in_ok-opened.opened.plan, c.in_ok-opened.ensures.plan, c.in_ok-opened.ensures.told)

pub returns-in_err-opened-clause-shows : goal.returns-in_err-opened-clause-shows
returns-in_err-opened-clause-shows g c = let p = err_from_is_err_and c.from_residual.result c.from_residual.ensures.1 in rw (p.1, p.2)
    (subst (λ (console : ConsoleValue). ShowsKept (g.D.Disk.device c.args.disk).seen console.streams.contents (g.W.Write.contents c.console.inside.output.stream) (Err c.in_err-opened.field-0.0)) c.console.view_is
    (shown_not (g.D.Disk.device c.args.disk).seen (g.W.Write.contents c.console.inside.output.stream) _ c.in_err-opened.ensures.fault))

pub returns-in_err-opened-clause-cut : goal.returns-in_err-opened-clause-cut
returns-in_err-opened-clause-cut g c = let p = err_from_is_err_and c.from_residual.result c.from_residual.ensures.1 in rw (p.1, p.2) (cut_not (g.D.Disk.device c.args.disk).seen _ _ c.in_err-opened.ensures.fault)

pub returns-in_err-opened-clause-told : goal.returns-in_err-opened-clause-told
returns-in_err-opened-clause-told g c = let p = err_from_is_err_and c.from_residual.result c.from_residual.ensures.1 in rw (p.1, p.2, ← c.console.view_is) (told_not _ _ _ _ c.in_err-opened.ensures.fault c.in_err-opened.ensures.untold)

pub returns-in_err-text-clause-cut : goal.returns-in_err-text-clause-cut
returns-in_err-text-clause-cut g c = let p = err_from_is_err_and c.from_residual-in_err-text.result c.from_residual-in_err-text.ensures.1 in rw (p.1, p.2) tt
