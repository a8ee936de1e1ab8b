use Rattle.std.proofs.Common.{[]}
use Rattle.hpb_server.proofs.Queues.{not_asked, sent_first}
use Rattle.hpb_server.proofs.serving.ask_queue.Goals as goal

pub returns-in_err-send_first-clause-passed : goal.returns-in_err-send_first-clause-passed
returns-in_err-send_first-clause-passed g c = λ state at. (
  state,
  not_asked g.D.Desk.ways [] c.in_err-send_first.field-0.0 c.from_residual.result c.from_residual.ensures.1 c.in_err-send_first.ensures.passed,
  at,
)

pub returns-clause-passed : goal.returns-clause-passed
returns-clause-passed g c = λ state at.
    let asked = c.ask_waiting.ensures.passed state at in (
      asked.0,
      sent_first g.D.Desk.ways _ c.ask_waiting.result c.in_ok-send_first.ensures.passed asked.1,
      asked.2,
    )
