use Rattle.std.proofs.Common.{◌≡◌, Result, refl, sym, ◌∙◌}
use Rattle.std.specs.Result.{IsErrAnd}
use Rattle.hpb_server.specs.declared.fault.SessionFault.{SessionFault}
use Rattle.hpb_server.specs.declared.fault.SessionFault.TheVariants.{Writer}
use Rattle.hpb_server.specs.Streams.{streams}
use Rattle.hpb_server.proofs.Errors.{err_case}
use Rattle.hpb_server.proofs.Explained.{explained_at_more, explained_at_none}
use Rattle.hpb_server.proofs.Chunks.{comes_begins, comes_stopped, comes_session, comes_refused, comes_sent, comes_unread, comes_over, comes_more, comes_ended}
use Rattle.hpb_server.proofs.Passing.{writer_read}
use Rattle.hpb_server.proofs.Sessions.{session_broken, session_more, session_cut}
use Rattle.hpb_server.proofs.serving.answer_lines.Goals as goal

as_writer : {T : Type 0} {fault : SessionFault} (r : Result T SessionFault) → IsErrAnd r (λ e. e ≡ fault) → fault ≡ Writer → IsErrAnd r (λ e. e ≡ Writer)
as_writer r bad is = err_case (λ x. IsErrAnd x (λ e. e ≡ Writer)) r bad (λ e same. same ∙ is)

pub chunks-init : goal.chunks-init
chunks-init g c = (refl, λ state at. (state, comes_begins c.new-line.ensures c.requires.sent, at), explained_at_none c.args.is_terminal _)

pub chunks-preserved : goal.chunks-preserved
chunks-preserved g c =
    let answered = c.in_ok-answer_unread.ensures in
    let filled = rw c.if-not-branch.false at c.in_ok-fill.ensures in
    let goes = sym c.upkeep.ensures.over ∙ (sym c.is_over.ensures ∙ c.if-is_over.false) in (
      c.upkeep.ensures.rules ∙ (c.answer_unread.ensures.rules ∙ c.chunks.invariant.0),
      λ state at.
          let came = c.chunks.invariant.1 state at in
          let next = answered.lines came.0 came.2 in
          let t = next.1 came.1.session.rest came.1.session.no_end came.1.session.kept in (
            next.0,
            comes_more came.1 t (g.W.Write.contents c.send.new.writer) c.in_ok-send.ensures.bytes c.send.ensures.empty (g.R.Read.remaining c.fill.new.reader) (answered.taken goes) answered.read filled.0 filled.2,
            c.upkeep.ensures.kept next.0 next.2,
          ),
      explained_at_more c.args.is_terminal _ _ _ c.chunks.invariant.2 c.answer_unread.ensures.explained,
    )

pub returns-in_err-answer_unread-clause-served : goal.returns-in_err-answer_unread-clause-served
returns-in_err-answer_unread-clause-served g c = λ state at.
    let came = c.chunks.invariant.1 state at in
    let next = c.in_err-answer_unread.ensures.lines came.0 came.2 in
    let t = next.1 came.1.session.rest came.1.session.no_end came.1.session.kept in (
      next.0,
      comes_stopped came.1 (g.W.Write.contents c.answer_unread.new.writer) next.0 c.in_err-answer_unread.field-0.0 c.from_residual.result c.from_residual.ensures.1 t.0 (session_broken came.1.session t.1),
      next.2,
    )

pub returns-in_err-send-clause-served : goal.returns-in_err-send-clause-served
returns-in_err-send-clause-served g c = λ state at.
    let came = c.chunks.invariant.1 state at in
    let next = c.in_ok-answer_unread.ensures.lines came.0 came.2 in
    let t = next.1 came.1.session.rest came.1.session.no_end came.1.session.kept in
    let cut = c.in_err-send.ensures.bytes in (
      next.0,
      comes_stopped came.1 (g.W.Write.contents c.send.new.writer) next.0 Writer c.from_residual-in_err-send.result (as_writer c.from_residual-in_err-send.result c.from_residual-in_err-send.ensures.1 cut.0) writer_read
          (session_cut (session_more came.1.session t) cut.1 cut.2),
      next.2,
    )

pub returns-in_err-upkeep-clause-served : goal.returns-in_err-upkeep-clause-served
returns-in_err-upkeep-clause-served g c = λ state at.
    let came = c.chunks.invariant.1 state at in
    let next = c.in_ok-answer_unread.ensures.lines came.0 came.2 in
    let t = next.1 came.1.session.rest came.1.session.no_end came.1.session.kept in (
      next.0,
      comes_refused came.1 (g.W.Write.contents c.send.new.writer) next.0 c.from_residual-in_err-upkeep.result c.from_residual-in_err-upkeep.ensures.1 c.in_err-upkeep.ensures.refused c.send.ensures.empty
          (comes_session came.1 t (g.W.Write.contents c.send.new.writer) c.in_ok-send.ensures.bytes c.send.ensures.empty),
      c.upkeep.ensures.kept next.0 next.2,
    )

pub returns-then-is_over-clause-served : goal.returns-then-is_over-clause-served
returns-then-is_over-clause-served g c = λ state at.
    let came = c.chunks.invariant.1 state at in
    let next = c.in_ok-answer_unread.ensures.lines came.0 came.2 in
    let t = next.1 came.1.session.rest came.1.session.no_end came.1.session.kept in
    let rested = c.upkeep.ensures.kept next.0 next.2 in
    let over = g.met.D.Desk.over_is c.upkeep.new.self next.0 rested ∙ (sym c.is_over.ensures ∙ c.if-is_over.true) in
    (next.0, comes_over came.1 t (g.W.Write.contents c.send.new.writer) c.in_ok-send.ensures.bytes c.send.ensures.empty over, rested)

pub returns-in_err-fill-clause-served : goal.returns-in_err-fill-clause-served
returns-in_err-fill-clause-served g c = λ state at.
    let came = c.chunks.invariant.1 state at in
    let answered = c.in_ok-answer_unread.ensures in
    let next = answered.lines came.0 came.2 in
    let t = next.1 came.1.session.rest came.1.session.no_end came.1.session.kept in
    let goes = sym c.upkeep.ensures.over ∙ (sym c.is_over.ensures ∙ c.if-is_over.false) in
    let sent = comes_sent came.1 t (g.W.Write.contents c.send.new.writer) c.in_ok-send.ensures.bytes c.send.ensures.empty c.answer_unread.new.input refl answered.read in (
      next.0,
      comes_unread sent (g.R.Read.remaining c.fill.new.reader) c.in_err-fill.field-0.0 c.from_residual-in_err-fill.result c.from_residual-in_err-fill.ensures.1 c.in_err-fill.ensures.0 (answered.taken goes) c.send.ensures.empty c.in_err-fill.ensures.1,
      c.upkeep.ensures.kept next.0 next.2,
    )

pub returns-clause-served : goal.returns-clause-served
returns-clause-served g c = λ state at.
    let came = c.chunks.invariant.1 state at in
    let answered = c.in_ok-answer_unread.ensures in
    let next = answered.lines came.0 came.2 in
    let t = next.1 came.1.session.rest came.1.session.no_end came.1.session.kept in
    let rested = c.upkeep.ensures.kept next.0 next.2 in
    let ended = rw c.if-not-branch.true at c.in_ok-fill.ensures in
    let over = sym c.is_over.ensures ∙ c.if-is_over.false in
    let goes = sym c.upkeep.ensures.over ∙ over in (
      next.0,
      comes_ended came.1 t (g.W.Write.contents c.send.new.writer) c.in_ok-send.ensures.bytes c.send.ensures.empty (g.met.D.Desk.over_is c.upkeep.new.self next.0 rested ∙ over)
          (streams (g.R.Read.remaining c.fill.new.reader) (g.W.Write.contents c.end_lines.new.writer)) (answered.taken goes) ended.0 ended.1 g.D.Desk.ways.most_is_some.0 c.end_lines.result c.end_lines.ensures,
      rested,
    )

pub returns-in_err-answer_unread-clause-explained : goal.returns-in_err-answer_unread-clause-explained
returns-in_err-answer_unread-clause-explained g c = explained_at_more c.args.is_terminal _ _ _ c.chunks.invariant.2 c.answer_unread.ensures.explained

pub returns-in_err-send-clause-explained : goal.returns-in_err-send-clause-explained
returns-in_err-send-clause-explained g c = explained_at_more c.args.is_terminal _ _ _ c.chunks.invariant.2 c.answer_unread.ensures.explained

pub returns-in_err-upkeep-clause-explained : goal.returns-in_err-upkeep-clause-explained
returns-in_err-upkeep-clause-explained g c = explained_at_more c.args.is_terminal _ _ _ c.chunks.invariant.2 c.answer_unread.ensures.explained

pub returns-then-is_over-clause-explained : goal.returns-then-is_over-clause-explained
returns-then-is_over-clause-explained g c = explained_at_more c.args.is_terminal _ _ _ c.chunks.invariant.2 c.answer_unread.ensures.explained

pub returns-in_err-fill-clause-explained : goal.returns-in_err-fill-clause-explained
returns-in_err-fill-clause-explained g c = explained_at_more c.args.is_terminal _ _ _ c.chunks.invariant.2 c.answer_unread.ensures.explained

pub returns-clause-explained : goal.returns-clause-explained
returns-clause-explained g c = explained_at_more c.args.is_terminal _ _ _ c.chunks.invariant.2 c.answer_unread.ensures.explained
