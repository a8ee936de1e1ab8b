use Rattle.std.proofs.Common.{◌≢◌, ℕ, List, refl, sym, ap, subst, take, ◌++◌, ◌∙◌, length, arith}
use Rattle.hpb_rules.specs.Lines.{request_of}
use Rattle.hpb_rules.specs.Tree.{Rules}
use Rattle.hpb_server.specs.declared.line.TheConstants.{KEPT_BYTES}
use Rattle.hpb_server.specs.declared.fault.SessionFault.{SessionFault}
use Rattle.hpb_server.specs.declared.fault.SessionFault.TheVariants.{Reader}
use Rattle.hpb_server.specs.Reading.{TakesAll}
use Rattle.hpb_server.specs.Session.{Broken, Proceeds}
use Rattle.hpb_server.proofs.Cut.{line_found, line_taken}
use Rattle.hpb_server.proofs.Errors.{err_case}
use Rattle.hpb_server.proofs.Explained.{explained_at_more, explained_at_none}
use Rattle.hpb_server.proofs.Standing.{same_rules}
use Rattle.hpb_server.proofs.Queues.{queues_asked, queues_begin, queues_between, queues_ended, queues_line, queues_session, waits_on, waits_broken}
use Rattle.hpb_server.proofs.serving.answer_unread.Goals as goal

pub lines-init : goal.lines-init
lines-init g c = (
  refl,
  refl,
  omega (arith, ap length c.new-queue.ensures, g.D.Desk.ways.most_is_some.0),
  λ over. c.new-queue.ensures,
  λ at_terminal. c.new-queue.ensures,
  λ state at. (state, λ partial no_end kept. queues_begin partial no_end kept c.new-queue.ensures, at),
  explained_at_none c.args.is_terminal _,
)

pub lines-preserved : goal.lines-preserved
lines-preserved g c =
    let inv = c.lines.invariant in
    let part = line_taken c.in-Some.ensures.line refl c.skip_line.ensures in (
      c.pass_request.ensures.rules ∙ inv.0,
      c.skip_line.ensures.nothing_read ∙ inv.1,
      c.in_ok-pass_request.ensures.room,
      c.in_ok-pass_request.ensures.over,
      c.in_ok-pass_request.ensures.none,
      λ state at.
          let came = inv.5 state at in
          let passed = c.in_ok-pass_request.ensures.passed came.0 came.2 in
          let heard = c.in-Some.ensures.value ∙ ap (λ (r : Rules). request_of r (take KEPT_BYTES (c.lines.line ++ take c.in-Some.next.size c.lines.input.unread))) c.definition.ensures in
          let are = g.met.D.Desk.rules_are c.lines.desk came.0 came.2 in
          let stays = same_rules g.met.D.Desk.rules_are c.lines.desk c.pass_request.new.desk came.0 passed.0 came.2 passed.2 c.pass_request.ensures.rules in (
            passed.0,
            λ partial no_end kept. queues_between (waits_on (queues_line (came.1 partial no_end kept) part (g.D.Desk.rules c.lines.desk) are c.in-Some.next.request heard) passed.1 stays) c.clear.ensures,
            passed.2,
          ),
      explained_at_more c.args.is_terminal _ _ _ inv.6 c.pass_request.ensures.explained,
    )

pub returns-in_err-pass_request-clause-lines : goal.returns-in_err-pass_request-clause-lines
returns-in_err-pass_request-clause-lines g c = λ state at.
    let came = c.lines.invariant.5 state at in
    let stopped = c.in_err-pass_request.ensures.passed came.0 came.2 in
    let are = g.met.D.Desk.rules_are c.lines.desk came.0 came.2 in
    let part = line_found {before = c.lines.input} c.in-Some.ensures.line refl in
    let heard = c.in-Some.ensures.value ∙ ap (λ (r : Rules). request_of r (take KEPT_BYTES (c.lines.line ++ take c.in-Some.next.size c.lines.input.unread))) c.definition.ensures in (
      stopped.0,
      λ partial no_end kept. err_case
          (Proceeds g.D.Desk.ways (partial ++ c.args.input.now.unread) state stopped.0
          (g.W.Write.contents c.args.writer.now) (g.W.Write.contents c.pass_request.new.writer) c.args.output.now c.next_request.new.line c.lines.input.unread c.pass_request.new.output)
          c.from_residual.result c.from_residual.ensures.1
          (λ fault is. subst (λ (f : SessionFault). (f ≢ Reader) × Broken g.D.Desk.ways (partial ++ c.args.input.now.unread) state stopped.0
          (g.W.Write.contents c.args.writer.now) (g.W.Write.contents c.pass_request.new.writer) c.args.output.now f) (sym is)
          (stopped.1.passes.0, waits_broken (queues_line (came.1 partial no_end kept) part (g.D.Desk.rules c.lines.desk) are c.in-Some.next.request heard) c.in_err-pass_request.field-0.0 stopped.1)),
      stopped.2,
    )

pub returns-in_default-clause-lines : goal.returns-in_default-clause-lines
returns-in_default-clause-lines g c = λ state at.
    let came = c.lines.invariant.5 state at in
    let asked = c.ask_queue.ensures.passed came.0 came.2 in
    let stays = same_rules g.met.D.Desk.rules_are c.lines.desk c.ask_queue.new.desk came.0 asked.0 came.2 asked.2 c.ask_queue.ensures.rules in
    (asked.0, λ partial no_end kept. queues_asked c.ask_queue.result (queues_ended (came.1 partial no_end kept) (subst (λ (l : List ℕ). TakesAll KEPT_BYTES c.lines.input c.keep_rest.new.self l c.keep_rest.new.line) (c.next_request.ensures.kept c.in_default.is) c.keep_rest.ensures)) asked.1 stays c.ask_queue.ensures.asked, asked.2)

pub returns-clause-lines : goal.returns-clause-lines
returns-clause-lines g c = λ state at.
    let inv = c.lines.invariant in
    let came = inv.5 state at in
    (came.0, λ partial no_end kept. queues_session (came.1 partial no_end kept) (inv.3 (sym c.is_over.ensures ∙ c.lines-test.false)), came.2)

pub returns-in_err-pass_request-clause-explained : goal.returns-in_err-pass_request-clause-explained
returns-in_err-pass_request-clause-explained g c = explained_at_more c.args.is_terminal _ _ _ c.lines.invariant.6 c.pass_request.ensures.explained
