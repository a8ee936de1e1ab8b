use Rattle.std.proofs.Common.{◌≡◌, Ok, ℕ, suc, ◌+◌, List, sym, subst, arith}
use Rattle.hpb_slots.specs.declared.slot.Slot.TheVariants.{First}
use Rattle.hpb_disk.specs.Asked.{Asked}
use Rattle.hpb_format.specs.Asking.{Writes, writes_chunks}
use Rattle.hpb_format.proofs.Calls.{call_made, none_writes, writes_break, writes_done, writes_join}
use Rattle.hpb_format.proofs.Made.{body_more, body_same, chunk_more, chunk_stays}
use Rattle.hpb_format.proofs.Turns.{chunks_end}
use Rattle.hpb_format.proofs.writing.write_state.Goals as goal

pub loop-i-init : goal.loop-i-init
loop-i-init g c =
    let here = g.D.Disk.device c.args.disk.now in record { written = λ j below. absurd (omega (arith, below)); rest = body_same here.seen; calls = none_writes tt here }

pub loop-i-preserved : goal.loop-i-preserved
loop-i-preserved g c =
    let was = c.loop-i.invariant in let write = c.in_ok-write_chunk.ensures in
    let first = g.D.Disk.device c.args.disk.now in let old = g.D.Disk.device c.loop-i.disk in let new = g.D.Disk.device c.write_chunk.new.disk in
    let next : suc c.loop-i.i ≡ c.loop-i.i + 1 = omega arith in
    record {
      written = chunk_more c.loop-i.i c.args.state.now old.seen new.seen c.loop-i-test.true write.rest write.written was.written;
      rest = body_more c.loop-i.i first.seen old.seen new.seen was.rest write.rest;
      calls = subst (λ (n : ℕ). Writes {T = Unit {0}} {E = Unit {0}} (Ok tt) (writes_chunks n c.args.state.now) first new) next
          (writes_done tt (writes_join _ was.calls (call_made write.size write.call, chunk_stays First c.loop-i.i write.crash)));
    }

pub returns-in_err-write_chunk-clause-calls : goal.returns-in_err-write_chunk-clause-calls
returns-in_err-write_chunk-clause-calls g c =
    let write = c.in_err-write_chunk.ensures in let all = chunks_end c.loop-i.i 4 c.args.state.now c.loop-i-test.true in
    subst (λ (calls : List Asked). Writes c.from_residual.result calls (g.D.Disk.device c.args.disk.now) (g.D.Disk.device c.write_chunk.new.disk)) (sym all.1)
    (writes_break _ c.from_residual.result all.0 c.from_residual.ensures.1
    (writes_join _ c.loop-i.invariant.calls (call_made write.size write.call, chunk_stays First c.loop-i.i write.crash)))

pub returns-clause-calls : goal.returns-clause-calls
returns-clause-calls g c =
    let all : c.loop-i.i ≡ 4 = omega (arith, c.loop-i-test.false) in
    writes_done _ (subst (λ (n : ℕ). Writes {T = Unit {0}} {E = Unit {0}} (Ok tt) (writes_chunks n c.args.state.now) (g.D.Disk.device c.args.disk.now) (g.D.Disk.device c.loop-i.disk)) all c.loop-i.invariant.calls)
