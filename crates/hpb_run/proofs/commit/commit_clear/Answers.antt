use Rattle.std.proofs.Common.{◌∙◌, sym, ap, subst}
use Rattle.hpb_rules.specs.Letters.{judged, new_commands}
use Rattle.hpb_rules.specs.Machine.{Effect, at_rest, in_flight}
use Rattle.hpb_engine.specs.declared.progress.Progress.{Progress}
use Rattle.hpb_engine.specs.Engines.{Keeps}
use Rattle.hpb_disk.specs.Device.{LeavesOnly}
use Rattle.hpb_run.specs.Batches.{IsAllOrNone}
use Rattle.hpb_run.proofs.Commits.{at_once, put_up}
use Rattle.hpb_run.proofs.Leaving.{none_left}
use Rattle.hpb_run.proofs.commit.commit_clear.Goals as goal

pub returns-in-Some-clause-commits : goal.returns-in-Some-clause-commits
returns-in-Some-clause-commits g c history keeps =
    let given = judged c.args.engine.now.progress.committed.rules history c.args.letters.now in
    let now = c.take.new.self in
    let stays = rw c.in-Some.is at c.take.ensures.stays in
    let leaving = rw c.in-Some.is at c.take.ensures.effect.answers (at_rest history) keeps in
    let kept = c.take.ensures.effect.keeps (at_rest history) keeps in
    let effect = at_once history given (new_commands given) now.progress.commit kept.flight (ap (λ (p : Progress). p.commit.busy) stays ∙ c.requires.clear.1) in (
      _,
      kept,
      (c.take.ensures.failed ∙ c.requires.clear.0, leaving ∙ ap (λ (e : Effect). e.leaving) effect, ap (λ (e : Effect). e.machine) effect),
      ap (λ (p : Progress). p.committed.rules) stays,
    )

pub returns-in-None-clause-commits : goal.returns-in-None-clause-commits
returns-in-None-clause-commits g c history keeps =
    let given = judged c.args.engine.now.progress.committed.rules history c.args.letters.now in
    let now = c.take.new.self in
    let stays = rw c.in-None.is at c.take.ensures.stays in
    let kept = c.take.ensures.effect.keeps (at_rest history) keeps in
    let machine = put_up history given (new_commands given) now.progress.commit kept.flight (ap (λ (p : Progress). p.commit.busy) stays)
    ∙ ap (in_flight history given) (sym (ap (λ (p : Progress). p.commit.turns) stays)) in
    let ended = c.land.ensures.keeps history given (subst (Keeps now) machine kept) in
    (ended.0, ended.1, ended.2, ended.3 ∙ ap (λ (p : Progress). p.committed.rules) stays)

pub returns-in-Some-clause-since : goal.returns-in-Some-clause-since
returns-in-Some-clause-since g c history keeps =
    rw c.take.ensures.disk (none_left history (judged c.args.engine.now.progress.committed.rules history c.args.letters.now) _ keeps.images)

pub returns-in-None-clause-since : goal.returns-in-None-clause-since
returns-in-None-clause-since g c history keeps =
    let d = g.D.Disk in
    let given = judged c.args.engine.now.progress.committed.rules history c.args.letters.now in
    let now = c.take.new.self in
    let stays = rw c.in-None.is at c.take.ensures.stays in
    let kept = c.take.ensures.effect.keeps (at_rest history) keeps in
    let machine = put_up history given (new_commands given) now.progress.commit kept.flight (ap (λ (p : Progress). p.commit.busy) stays)
    ∙ ap (in_flight history given) (sym (ap (λ (p : Progress). p.commit.turns) stays)) in
    subst (λ (disk : g.row.D.Denot). LeavesOnly (d.device disk) (d.device c.land.new.engine.disk) (IsAllOrNone history given)) c.take.ensures.disk
    (c.land.ensures.since history given (subst (Keeps now) machine kept))
