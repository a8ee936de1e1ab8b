use Rattle.std.proofs.Common.{◌∙◌, inl, refl, sym, subst}
use Rattle.std.proofs.KnownBytes.{Keeps-refl}
use Rattle.std.proofs.lemmas.Result.{err_from_is_err_and}
use Rattle.hpb_rules.specs.AuctionValue.{Shows}
use Rattle.hpb_recover.specs.Plans.{IsPlan, IsPlanOf}
use Rattle.hpb_recover.specs.declared.plan.Plan.{Plan}
use Rattle.hpb_program.proofs.Doubting.{not_looked, tells}
use Rattle.hpb_program.proofs.opening.open_kept.Goals as goal

pub returns-in_err-looked-clause-fault : goal.returns-in_err-looked-clause-fault
returns-in_err-looked-clause-fault g c = let p = err_from_is_err_and c.from_residual.result c.from_residual.ensures.1 in rw (p.1, p.2) (not_looked (g.D.Disk.device c.args.disk).seen _ c.in_err-looked.ensures.fault)

pub returns-in_err-looked-clause-untold : goal.returns-in_err-looked-clause-untold
returns-in_err-looked-clause-untold g c = rw (err_from_is_err_and c.from_residual.result c.from_residual.ensures.1).1 (Keeps-refl _)

pub returns-in_err-line-clause-untold : goal.returns-in_err-line-clause-untold
returns-in_err-line-clause-untold g c = rw (err_from_is_err_and c.from_residual-in_err-line.result c.from_residual-in_err-line.ensures.1).1 (Keeps-refl _)

pub returns-clause-told : goal.returns-clause-told
returns-clause-told g c =
    tells c.in-Ok.opened.plan c.in_ok-looked.looked.opened.plan (g.D.Disk.device c.in-Ok.opened.disk).seen (g.D.Disk.device c.args.disk).seen _ _ c.in_ok-looked.looked.doubts.slot c.in_ok-looked.looked.doubts.frame
    c.count.result c.as_bytes.result.now c.in_ok-looked.ensures.plan c.in-Ok.ensures.quiet.same c.in_ok-looked.ensures.slot c.in_ok-looked.ensures.frame c.count.ensures.value
    (c.as_bytes.ensures.value ∙ c.in_ok-line.ensures) c.say.ensures

pub returns-in_err-line-clause-fault : goal.returns-in_err-line-clause-fault
returns-in_err-line-clause-fault g c = let p = err_from_is_err_and c.from_residual-in_err-line.result c.from_residual-in_err-line.ensures.1 in rw (p.1, p.2) (inl refl)

pub returns-clause-shows : goal.returns-clause-shows
returns-clause-shows g c history stands = subst (λ (plan : Plan). Shows plan.auction history) (sym c.in_ok-looked.ensures.plan) (c.in-Ok.ensures.shows history stands)

pub returns-clause-read : goal.returns-clause-read
returns-clause-read g c =
    let read = c.in-Ok.ensures.read in
    (read.0, read.1, subst (λ (plan : Plan). IsPlanOf plan read.0) (sym c.in_ok-looked.ensures.plan) read.2)

pub returns-clause-plan : goal.returns-clause-plan
returns-clause-plan g c =
    let image = (g.D.Disk.device c.args.disk).seen in
    let here = subst (IsPlan c.in-Ok.opened.plan) c.in-Ok.ensures.quiet.same c.in-Ok.opened.read in
    subst (λ (plan : Plan). IsPlan plan image) (sym c.in_ok-looked.ensures.plan) here

pub returns-clause-same : goal.returns-clause-same
returns-clause-same g c = c.in_ok-looked.ensures.same ∙ c.in-Ok.ensures.quiet.same

pub returns-clause-works : goal.returns-clause-works
returns-clause-works g c = c.in_ok-looked.ensures.works ∙ c.in-Ok.ensures.works
