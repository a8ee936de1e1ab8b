use Rattle.std.proofs.Common.{◌≡◌, ℕ, Bool, false, reverse, ap, subst}
use Rattle.hpb_rules.specs.Answer.{IsPast}
use Rattle.hpb_rules.specs.Machine.{at_rest}
use Rattle.hpb_rules.specs.Tree.{Rules}
use Rattle.hpb_engine.specs.Engines.{running_of}
use Rattle.hpb_engine.specs.Runs.{Ran}
use Rattle.hpb_engine.proofs.Counting.{counts}
use Rattle.hpb_engine.proofs.Moving.{survived}
use Rattle.hpb_engine.proofs.promise.drive_opened.Goals as goal

pub returns-in-Ok-drive-clause-survives : goal.returns-in-Ok-drive-clause-survives
returns-in-Ok-drive-clause-survives g c first stands =
    let d = g.D.Disk in
    let engine = c.in-Ok.engine in
    let driven = c.in-Ok-drive.driven in
    let rules = c.args.opened.plan.auction.rules in
    let ruled : engine.progress.committed.rules ≡ rules = ap (λ v. v.rules) c.in-Ok.ensures.started.committed in
    let keeps = c.in-Ok.ensures.keeps first stands in
    let is = subst (λ (r : Rules). IsPast r (reverse first)) ruled keeps.shows.0 in
    let RanAt : ℕ → Bool → Type 0 = λ at failed. Ran (record { moment = at; progress = engine.progress; failed = failed; machine = at_rest first })
    c.args.events.now (running_of driven.engine) driven.answers.items driven.fault in
    let ran : RanAt (d.device c.args.opened.disk).moment false =
    subst (λ (at : ℕ). RanAt at false) (ap (λ disk. (d.device disk).moment) c.in-Ok.ensures.disk)
    (subst (RanAt (d.device engine.disk).moment) c.in-Ok.ensures.works (c.in-Ok-drive.ensures.ran (at_rest first) keeps)) in
    let it = survived c.run_joins.ensures c.run_is_moves.ensures c.rest_is_sound.ensures c.fits_grow.ensures counts rules first is
    (d.device c.args.opened.disk) engine.progress c.args.events.now (running_of driven.engine) driven.answers.items driven.fault ruled ran in
    record { survives = it.0; of_engine = record { begun = engine.progress; started = c.in-Ok.ensures.started; ran = ran; paused = it.1 } }
