use Rattle.std.proofs.lemmas.Result.{err_from_is_err_and}
use Rattle.hpb_run.specs.Device.{State}
use Rattle.hpb_run.specs.Standing.{StandsAt}
use Rattle.hpb_run.proofs.Standings.{alike_failed, batch_told, failed_told, keeps_rest, refused_stands}
use Rattle.hpb_run.proofs.asking.ask_engine.Goals as goal

pub returns-then-engine-clause-asked : goal.returns-then-engine-clause-asked
returns-then-engine-clause-asked g c state stands =
    failed_told c.args.engine.now state stands c.if-engine.true c.args.commands.now c.all_refused.result c.requires.some (rw c.len-count.ensures.value at c.all_refused.ensures)

pub returns-then-engine-clause-alike : goal.returns-then-engine-clause-alike
returns-then-engine-clause-alike g c state stands is =
    alike_failed c.args.engine.now state stands c.args.commands.now c.all_refused.result (rw c.len-count.ensures.value at c.all_refused.ensures)

pub returns : goal.returns
returns g c =
    let old = c.args.engine.now in
    let ended = c.in_ok-ended.ended in
    let on = c.if-engine.false in
    let told = λ (state : State) (stands : StandsAt old state).
    let came = c.in_ok-ended.ensures.commits state.history (keeps_rest old state stands on) in
    batch_told old state stands on c.commit_letters.new.engine
    c.judged_is_answered.ensures c.args.commands.now c.letters_of.result c.letters_of.ensures c.requires.some c.requires.most ended.answers.items c.replies_to.result ended.fault
    came.0 c.in_ok-ended.ensures.cause came.1 (rw c.as_slice.ensures.value at c.replies_to.ensures.answered) (rw c.len-count.ensures.value at c.replies_to.ensures.refused) in
    record { asked = λ state stands. (told state stands).0; alike = λ state stands. (told state stands).1; kept = λ state stands. tt }

pub returns-in_err-ended-clause-kept : goal.returns-in_err-ended-clause-kept
returns-in_err-ended-clause-kept g c state stands =
    let old = c.args.engine.now in
    let on = c.if-engine.false in
    let back = c.in_err-ended.ensures.back state.history (keeps_rest old state stands on) in
    let told = err_from_is_err_and c.from_residual.result c.from_residual.ensures.1 in
    rw told.1 (refused_stands old state stands on c.commit_letters.new.engine back.0 back.1)
