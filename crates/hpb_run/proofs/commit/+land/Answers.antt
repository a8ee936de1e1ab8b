use Rattle.std.proofs.Common.{true, ◌∙◌, sym, ap, subst}
use Rattle.std.proofs.lemmas.Result.{err_from_is_err_and}
use Rattle.hpb_rules.specs.Machine.{Machine, in_flight, turn}
use Rattle.hpb_engine.specs.declared.progress.Progress.{Progress}
use Rattle.hpb_engine.specs.Engines.{Keeps}
use Rattle.hpb_disk.proofs.Runs.{leaves_join}
use Rattle.hpb_engine.specs.Steps.{step_of}
use Rattle.hpb_run.proofs.Commits.{failed_turn, went}
use Rattle.hpb_run.proofs.Leaving.{turned}
use Rattle.hpb_run.proofs.commit.+land.Goals as goal

pub returns-in-Done-clause-keeps : goal.returns-in-Done-clause-keeps
returns-in-Done-clause-keeps g t c history given keeps =
    let told = c.in_ok-make_turn.ensures in
    let machine = in_flight history given c.args.engine.now.progress.commit.turns in
    let leads = rw c.in-Done.is at told.leads in
    let leaving = rw c.in-Done.is at told.effect.answers machine keeps in
    let kept = rw c.in-Done.is at told.effect.keeps machine keeps in
    let third = ap (in_flight history given) leads.2 in
    (_, kept, (told.device.works, leaving ∙ ap (λ (m : Machine). (turn true m).leaving) third, ap (λ (m : Machine). (turn true m).machine) third), told.rules)

pub returns-in-Went-clause-keeps : goal.returns-in-Went-clause-keeps
returns-in-Went-clause-keeps g t c history given keeps =
    let told = c.in_ok-make_turn.ensures in
    let turns = c.args.engine.now.progress.commit.turns in
    let now = c.make_turn.new.self in
    let leads = rw c.in-Went.is at told.leads in
    let kept = rw c.in-Went.is at told.effect.keeps (in_flight history given turns) keeps in
    let machine = went history given turns leads.2 ∙ ap (in_flight history given) (sym (ap (λ (p : Progress). p.commit.turns) leads.3)) in
    let ended = c.land.ensures.keeps history given (subst (Keeps now) machine kept) in
    (ended.0, ended.1, ended.2, ended.3 ∙ told.rules)

pub returns-in_err-make_turn-clause-keeps : goal.returns-in_err-make_turn-clause-keeps
returns-in_err-make_turn-clause-keeps g t c history given keeps =
    let told = c.in_err-make_turn.ensures in
    let old = c.args.engine.now.progress in
    let p = err_from_is_err_and c.from_residual.result c.from_residual.ensures.1 in
    rw (p.1, p.2) (failed_turn history given c.make_turn.new.self old old.commit.turns c.make_turn.new.leaving _ c.requires.works told.device.fails told.leads (told.effect.keeps (in_flight history given old.commit.turns) keeps) told.rules)

pub returns-in-Done-clause-since : goal.returns-in-Done-clause-since
returns-in-Done-clause-since g t c history given keeps =
    let old = c.args.engine.now in
    let turns = old.progress.commit.turns in
    turned history given (step_of c.make_turn.result c.make_turn.new.leaving) turns old.safe.commit.turns (c.make_turn.ensures.effect.since (in_flight history given turns) keeps)

pub returns-in-Went-clause-since : goal.returns-in-Went-clause-since
returns-in-Went-clause-since g t c history given keeps =
    let told = c.in_ok-make_turn.ensures in
    let old = c.args.engine.now in
    let turns = old.progress.commit.turns in
    let leads = rw c.in-Went.is at told.leads in
    let kept = rw c.in-Went.is at told.effect.keeps (in_flight history given turns) keeps in
    let machine = went history given turns leads.2 ∙ ap (in_flight history given) (sym (ap (λ (p : Progress). p.commit.turns) leads.3)) in
    leaves_join
    (turned history given (step_of c.make_turn.result c.make_turn.new.leaving) turns old.safe.commit.turns (c.make_turn.ensures.effect.since (in_flight history given turns) keeps))
    (c.land.ensures.since history given (subst (Keeps c.make_turn.new.self) machine kept))

pub returns-in_err-make_turn-clause-since : goal.returns-in_err-make_turn-clause-since
returns-in_err-make_turn-clause-since g t c history given keeps =
    let old = c.args.engine.now in
    let turns = old.progress.commit.turns in
    turned history given (step_of c.make_turn.result c.make_turn.new.leaving) turns old.safe.commit.turns (c.make_turn.ensures.effect.since (in_flight history given turns) keeps)
