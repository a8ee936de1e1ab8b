use Rattle.std.proofs.Common.{[], ◌∙◌, arith}
use Rattle.std.specs.Prelude.{Ok, Err}
use Rattle.hpb_rules.specs.Rendering.{reply_text}
use Rattle.hpb_server.proofs.Errors.{err_alone}
use Rattle.hpb_server.proofs.Queues.{command_passed, none_asked, passes_fewer}
use Rattle.hpb_server.proofs.serving.ask_alone.Goals as goal

pub returns-in_err-pass_added-in-Ok-clause-passed : goal.returns-in_err-pass_added-in-Ok-clause-passed
returns-in_err-pass_added-in-Ok-clause-passed g c = λ state at.
    let asked = c.in-Ok.ensures.asked state at in
    let fault = c.in_err-pass_added-in-Ok.field-0.0 in (
      asked.0,
      passes_fewer g.D.Desk.ways [] fault c.from_residual.result c.from_residual.ensures.1
          (command_passed g.D.Desk.ways state asked.0 c.args.command.now c.in-Ok.reply
          (g.met.D.Desk.over_is c.args.desk.now state at ∙ c.requires.goes_on) (g.D.Desk.ways.rules_stay state asked.0 c.args.command.now c.in-Ok.reply asked.1) asked.1
          _ _ (Err fault) (c.in_err-pass_added-in-Ok.ensures c.args.output.now (reply_text c.in-Ok.reply) c.reply-added.ensures)),
      asked.2,
    )

pub returns-in_ok-pass_added-in-Ok-clause-passed : goal.returns-in_ok-pass_added-in-Ok-clause-passed
returns-in_ok-pass_added-in-Ok-clause-passed g c = λ state at.
    let asked = c.in-Ok.ensures.asked state at in (
      asked.0,
      command_passed g.D.Desk.ways state asked.0 c.args.command.now c.in-Ok.reply
          (g.met.D.Desk.over_is c.args.desk.now state at ∙ c.requires.goes_on) (g.D.Desk.ways.rules_stay state asked.0 c.args.command.now c.in-Ok.reply asked.1) asked.1
          _ _ (Ok tt) (c.in_ok-pass_added-in-Ok.ensures c.args.output.now (reply_text c.in-Ok.reply) c.reply-added.ensures),
      c.explain.ensures.kept asked.0 asked.2,
    )

pub returns-in_ok-pass_added-in-Ok-clause-told : goal.returns-in_ok-pass_added-in-Ok-clause-told
returns-in_ok-pass_added-in-Ok-clause-told g c = λ at_terminal state at.
    let asked = c.in-Ok.ensures.asked state at in
    (c.in-Ok.reply, asked.0, asked.1, c.explain.ensures.told at_terminal asked.0 asked.2)

pub returns-in-Err-clause-passed : goal.returns-in-Err-clause-passed
returns-in-Err-clause-passed g c = λ state at. (
  state,
  none_asked g.D.Desk.ways c.break_off.result (c.break_off.ensures.passed g.D.Desk.ways.most g.D.Desk.ways.takes_memory [] (omega arith) (λ none. c.in-Err.ensures.refused)) (err_alone _ c.break_off.result c.break_off.ensures.failed),
  c.in-Err.ensures.kept state at,
)
