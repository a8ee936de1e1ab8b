use Rattle.std.proofs.Common.{[], ◌∷◌, sym, subst}
use Rattle.std.proofs.lemmas.Result.{on_ok_weaker}
use Rattle.hpb_disk.specs.Asked.Asked.{syncs}
use Rattle.hpb_format.specs.Asking.{writes_chunks}
use Rattle.hpb_format.specs.Stages.{IsWritten}
use Rattle.hpb_format.proofs.Calls.{sync_writes, writes_break, writes_join}
use Rattle.hpb_format.proofs.Made.{written}
use Rattle.hpb_format.proofs.writing.write_all.Goals as goal

pub returns-clause-written : goal.returns-clause-written
returns-clause-written g c =
    let d = g.D.Disk in let layout = g.F.Frames.layout c.args.frames.now in
    let head = c.in_ok-write_head.ensures in let state = c.in_ok-write_state.ensures in
    let all = written layout c.laws.ensures c.elsewhere_stays.ensures c.chunks_are_whole.ensures c.args.head.now c.args.state.now
    (d.device c.args.disk.now).seen (d.device c.write_head.new.disk).seen (d.device c.write_state.new.disk).seen
    c.requires.room c.requires.state c.requires.closed head.rest head.written state.rest state.written in
    on_ok_weaker c.sync.result (λ durable. subst (IsWritten layout c.args.head.now c.args.state.now) (sym c.sync.ensures.seen) all) c.sync.ensures.durable

pub returns-in_err-write_head-clause-calls : goal.returns-in_err-write_head-clause-calls
returns-in_err-write_head-clause-calls g c = writes_break _ c.from_residual.result (syncs ∷ writes_chunks 4 c.args.state.now) c.from_residual.ensures.1 c.in_err-write_head.ensures.calls

pub returns-in_err-write_state-clause-calls : goal.returns-in_err-write_state-clause-calls
returns-in_err-write_state-clause-calls g c =
    writes_break _ c.from_residual-in_err-write_state.result (syncs ∷ []) c.from_residual-in_err-write_state.ensures.1
    (writes_join _ c.in_ok-write_head.ensures.calls c.in_err-write_state.ensures.calls)

pub returns-clause-calls : goal.returns-clause-calls
returns-clause-calls g c =
    let sync = c.sync.ensures in
    writes_join c.sync.result (writes_join _ c.in_ok-write_head.ensures.calls c.in_ok-write_state.ensures.calls) (sync_writes sync.seen sync.crash sync.call)
