use Rattle.std.specs.Prelude.{Ok, Err}
use Rattle.std.proofs.KnownBytes.{Appends-nil}
use Rattle.hpb_server.specs.declared.fault.SessionFault.TheVariants.{Memory}
use Rattle.hpb_server.proofs.ScriptRuns.{given_script, vain_script, given_answers, nothing_run, never_run, refused_run, ended_run, answered_run, broken_run}
use Rattle.hpb_server.proofs.Explained.{accepted_none, accepted_only}
use Rattle.hpb_server.proofs.Refusals.{said_before, said_of_refused}
use Rattle.hpb_server.proofs.script.run_script.Goals as goal

pub returns-in_err-input-clause-runs : goal.returns-in_err-input-clause-runs
returns-in_err-input-clause-runs g c = never_run _ c.from_residual.result c.from_residual.ensures.1

pub returns-in_err-output-clause-runs : goal.returns-in_err-output-clause-runs
returns-in_err-output-clause-runs g c = never_run _ c.from_residual-in_err-output.result c.from_residual-in_err-output.ensures.1

pub returns-in_err-text-clause-runs : goal.returns-in_err-text-clause-runs
returns-in_err-text-clause-runs g c = nothing_run _ _ c.in_err-text.field-0.0 c.from_residual-in_err-text.result c.from_residual-in_err-text.ensures.1 c.in_err-text.ensures.err.0 (vain_script c.in_ok-input.ensures _ _ c.in_err-text.ensures.err.1) (Appends-nil _)

pub returns-then-not-text-clause-runs : goal.returns-then-not-text-clause-runs
returns-then-not-text-clause-runs g c =
    let given = given_script c.in_ok-input.ensures c.in_ok-text.ensures.ok in
    let accepted = given_answers given (Ok c.in-Ok.definition) c.as_slice.ensures.value c.in-Ok.ensures in
    ended_run given c.in-Ok.definition accepted (g.W.Write.contents c.args.writer.now) c.if-not-text.true

pub returns-in_err-answer_script-in-Ok-clause-runs : goal.returns-in_err-answer_script-in-Ok-clause-runs
returns-in_err-answer_script-in-Ok-clause-runs g c =
    let given = given_script c.in_ok-input.ensures c.in_ok-text.ensures.ok in
    let accepted = given_answers given (Ok c.in-Ok.definition) c.as_slice.ensures.value c.in-Ok.ensures in
    broken_run given c.in-Ok.definition accepted (g.R.Read.remaining c.answer_script.new.reader) (g.W.Write.contents c.args.writer.now) (g.W.Write.contents c.answer_script.new.writer) c.if-not-text.false
    c.in_err-answer_script-in-Ok.field-0.0 c.from_residual-in_err-answer_script-in-Ok.result c.from_residual-in_err-answer_script-in-Ok.ensures.1 c.in_err-answer_script-in-Ok.ensures.served

pub returns-in-Ok-clause-runs : goal.returns-in-Ok-clause-runs
returns-in-Ok-clause-runs g c =
    let given = given_script c.in_ok-input.ensures c.in_ok-text.ensures.ok in
    let accepted = given_answers given (Ok c.in-Ok.definition) c.as_slice.ensures.value c.in-Ok.ensures in
    answered_run given c.in-Ok.definition accepted (g.R.Read.remaining c.answer_script.new.reader) (g.W.Write.contents c.args.writer.now) (g.W.Write.contents c.answer_script.new.writer) c.if-not-text.false c.in_ok-answer_script-in-Ok.ensures.served

pub returns-in_err-input-clause-said : goal.returns-in_err-input-clause-said
returns-in_err-input-clause-said g c =
    said_before c.args.is_terminal _ _ Memory c.from_residual.result c.from_residual.ensures.1 (accepted_none c.args.is_terminal _)

pub returns-in_err-output-clause-said : goal.returns-in_err-output-clause-said
returns-in_err-output-clause-said g c =
    said_before c.args.is_terminal _ _ Memory c.from_residual-in_err-output.result c.from_residual-in_err-output.ensures.1 (accepted_none c.args.is_terminal _)

pub returns-in_err-text-clause-said : goal.returns-in_err-text-clause-said
returns-in_err-text-clause-said g c =
    said_before c.args.is_terminal _ _ c.in_err-text.field-0.0 c.from_residual-in_err-text.result c.from_residual-in_err-text.ensures.1 (accepted_none c.args.is_terminal _)

pub returns-then-not-text-clause-said : goal.returns-then-not-text-clause-said
returns-then-not-text-clause-said g c = accepted_only c.args.is_terminal _ _ c.greet.ensures

pub returns-in-Ok-clause-said : goal.returns-in-Ok-clause-said
returns-in-Ok-clause-said g c = (_, c.greet.ensures, c.answer_script.ensures.explained)

pub returns-in_err-answer_script-in-Ok-clause-said : goal.returns-in_err-answer_script-in-Ok-clause-said
returns-in_err-answer_script-in-Ok-clause-said g c =
    said_before c.args.is_terminal _ _ c.in_err-answer_script-in-Ok.field-0.0 c.from_residual-in_err-answer_script-in-Ok.result c.from_residual-in_err-answer_script-in-Ok.ensures.1
    (_, c.greet.ensures, c.answer_script.ensures.explained)

pub returns-clause-said : goal.returns-clause-said
returns-clause-said g c =
    said_of_refused c.args.is_terminal _ _ _ _ c.in-Err.fault.cause c.refuse_script-end.result c.refuse_script-end.ensures c.tell_reason.ensures

pub returns-clause-runs : goal.returns-clause-runs
returns-clause-runs g c =
    let given = given_script c.in_ok-input.ensures c.in_ok-text.ensures.ok in
    let refused = given_answers given (Err c.in-Err.fault.cause) c.as_slice.ensures.value c.in-Err.ensures in
    refused_run given (g.W.Write.contents c.args.writer.now) (g.W.Write.contents c.refuse_script-end.new.writer) c.in-Err.fault.cause refused c.refuse_script-end.result c.refuse_script-end.ensures
