use Rattle.std.proofs.Common.{[], refl, sym, ap, arith, append-nil}
use Rattle.hpb_server.specs.Session.{asked_for, replies_text}
use Rattle.hpb_server.proofs.Errors.{ok_case}
use Rattle.hpb_server.proofs.Passing.{passes_weaker}
use Rattle.hpb_server.proofs.Queues.{fewer_replies, none_asked, queue_answered}
use Rattle.hpb_server.proofs.serving.ask_waiting.Goals as goal

pub returns-in-Ok-clause-passed : goal.returns-in-Ok-clause-passed
returns-in-Ok-clause-passed g c = λ state at.
    let commands = c.args.queue.now in
    let replies = c.in-Ok.replies in
    let asked = c.in-Ok.ensures.asked state at in
    let fewer = fewer_replies g.D.Desk.ways state asked.0 commands replies asked.1 in (
      asked.0,
      record {
        answered = asked_for commands;
        waiting = [];
        text = replies_text replies;
        parts = sym (append-nil (asked_for commands));
        answers = queue_answered g.D.Desk.ways state asked.0 commands replies asked.1;
        passes = passes_weaker g.D.Desk.ways.takes_memory _ _ _ _ c.pass_replies.result (omega (arith, fewer, c.requires.most)) c.pass_replies.ensures;
        queued = ok_case c.pass_replies.result (sym (ap asked_for c.clear.ensures));
      },
      asked.2,
    )

pub returns-in-Err-clause-passed : goal.returns-in-Err-clause-passed
returns-in-Err-clause-passed g c = λ state at. (
  state,
  none_asked g.D.Desk.ways c.break_off.result (c.break_off.ensures.passed g.D.Desk.ways.most g.D.Desk.ways.takes_memory [] (omega arith) (λ none. c.in-Err.ensures.refused)) (ok_case c.break_off.result refl),
  c.in-Err.ensures.kept state at,
)
