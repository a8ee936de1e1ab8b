use Rattle.std.proofs.Common.{◌∷◌, [], refl, sym, ◌∙◌, arith, append-nil, inl}
use Rattle.std.specs.Prelude.{Ok}
use Rattle.std.proofs.KnownBytes.{Appends-nil}
use Rattle.hpb_rules.specs.Text.{line_of}
use Rattle.hpb_server.proofs.Passing.{passes_weaker}
use Rattle.hpb_server.proofs.Standing.{same_rules}
use Rattle.hpb_server.proofs.Queues.{passes_fewer, passes_question, request_answered}
use Rattle.hpb_server.proofs.serving.pass_question.Goals as goal

pub returns-in_err-ask_queue-clause-passed : goal.returns-in_err-ask_queue-clause-passed
returns-in_err-ask_queue-clause-passed g c = λ state at.
    let asked = c.in_err-ask_queue.ensures.passed state at in (
      asked.0,
      passes_fewer g.D.Desk.ways (c.args.question ∷ []) c.in_err-ask_queue.field-0.0 c.from_residual.result c.from_residual.ensures.1 asked.1,
      asked.2,
    )

pub returns-then-is_over-clause-passed : goal.returns-then-is_over-clause-passed
returns-then-is_over-clause-passed g c = λ state at.
    let asked = c.in_ok-ask_queue.ensures.passed state at in
    let over = g.met.D.Desk.over_is c.ask_queue.new.desk asked.0 asked.2 ∙ (sym c.is_over.ensures ∙ c.if-is_over.true) in (
      asked.0,
      passes_question g.D.Desk.ways _ _ _ c.args.question [] (Ok tt) asked.1 c.in_ok-ask_queue.ensures.asked
          (inl (over, refl, refl)) ([], Appends-nil _, append-nil c.ask_queue.new.output),
      asked.2,
    )

pub returns-clause-passed : goal.returns-clause-passed
returns-clause-passed g c = λ state at.
    let asked = c.in_ok-ask_queue.ensures.passed state at in
    let added = c.answer_question-added.ensures.answer asked.0 asked.2 in
    let goes = g.met.D.Desk.over_is c.ask_queue.new.desk asked.0 asked.2 ∙ (sym c.is_over.ensures ∙ c.if-is_over.false) in
    let stays = same_rules g.met.D.Desk.rules_are c.ask_queue.new.desk c.answer_question-added.new.desk asked.0 added.0 asked.2 added.2 c.answer_question-added.ensures.rules in (
      added.0,
      passes_question g.D.Desk.ways _ _ _ c.args.question (line_of added.1.0) c.pass_added.result asked.1 c.in_ok-ask_queue.ensures.asked
          (request_answered g.D.Desk.ways asked.0 added.0 c.args.question added.1.0 goes stays added.1.1)
          (passes_weaker g.D.Desk.ways.takes_memory _ _ _ _ c.pass_added.result (omega (arith, g.D.Desk.ways.most_is_some.0)) (c.pass_added.ensures c.ask_queue.new.output added.1.0 added.1.2)),
      added.2,
    )
