use Rattle.std.proofs.Common.{[], append-nil, arith, ◌∙◌, sym}
use Rattle.std.specs.Prelude.{Ok}
use Rattle.std.proofs.KnownBytes.{Appends-nil}
use Rattle.std.proofs.lemmas.List.{nil_from_length}
use Rattle.hpb_server.proofs.Queues.{none_asked, sent_first, waits_more_in}
use Rattle.hpb_server.proofs.serving.pass_command.Goals as goal

pub returns-then-most_asked-eq1-clause-passed : goal.returns-then-most_asked-eq1-clause-passed
returns-then-most_asked-eq1-clause-passed g c = λ state at.
    let asked = c.ask_alone.ensures.passed state at in (
      asked.0,
      rw (nil_from_length c.args.queue.now (sym c.len.ensures.value ∙ c.if-len-eq0.true)) (sent_first g.D.Desk.ways _ c.ask_alone.result c.in_ok-send_first.ensures.passed asked.1),
      asked.2,
    )

pub returns-then-len-most_asked-clause-passed : goal.returns-then-len-most_asked-clause-passed
returns-then-len-most_asked-clause-passed g c = λ state at. (
  state,
  none_asked g.D.Desk.ways (Ok tt) ([], Appends-nil _, append-nil c.args.output.now)
      (waits_more_in c.args.queue.now c.push.new.self c.args.command c.push.result (c.push.ensures.room.1 (omega (arith, c.requires.room, g.D.Desk.ways.most_is_some.1))) c.push.ensures.pushed),
  at,
)
