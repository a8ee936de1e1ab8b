use Rattle.std.proofs.Common.{◌+◌, refl, arith}
use Rattle.hpb_journal.specs.declared.limits.TheConstants.{JOURNAL_AT}
use Rattle.hpb_format.proofs.Calls.{closes_break, closes_done, closes_join, none_closes}
use Rattle.hpb_format.proofs.Closed.{one_more, same_before, all_frames}
use Rattle.hpb_format.proofs.closing.close_frames.Goals as goal

pub loop-index-init : goal.loop-index-init
loop-index-init g c = record {
  closed = λ b below. absurd (omega (arith, below));
  before = λ at many inside. refl;
  closes = none_closes (g.F.Frames.shape c.args.frames.now) tt 0 (g.D.Disk.device c.args.disk.now);
}

pub loop-index-preserved : goal.loop-index-preserved
loop-index-preserved g c =
    let layout = g.F.Frames.layout c.args.frames.now in let journal = g.F.Frames.shape c.args.frames.now in let was = c.loop-index.invariant in let close = c.in_ok-close_frame_if_open.ensures in
    let old = (g.D.Disk.device c.args.disk.now).seen in let middle = (g.D.Disk.device c.loop-index.disk).seen in let new = (g.D.Disk.device c.close_frame_if_open.new.disk).seen in
    record {
      closed = one_more layout c.laws.ensures c.loop-index.index middle new close.rest close.closed was.closed;
      before = same_before JOURNAL_AT old middle new was.before close.rest.before;
      closes = closes_done journal tt (c.loop-index.index + 1) (c.loop-index.index + 1) (omega arith) (closes_join journal _ c.loop-index.index 1 (c.loop-index.index + 1) (omega arith) was.closes close.closes);
    }

pub returns-clause-closed : goal.returns-clause-closed
returns-clause-closed g c =
    let layout = g.F.Frames.layout c.args.frames.now in
    all_frames layout c.laws.ensures (g.D.Disk.device c.loop-index.disk).seen (λ b below. c.loop-index.invariant.closed b (omega (arith, below, c.loop-index-test.false, c.from-index-end.ensures, c.count.ensures)))

pub returns-in_err-close_frame_if_open-clause-closes : goal.returns-in_err-close_frame_if_open-clause-closes
returns-in_err-close_frame_if_open-clause-closes g c =
    let journal = g.F.Frames.shape c.args.frames.now in
    closes_break journal _ c.from_residual.result (c.loop-index.index + 1) _ (omega (arith, c.loop-index-test.true, c.from-index-end.ensures, c.count.ensures)) c.from_residual.ensures.1
    (closes_join journal _ c.loop-index.index 1 (c.loop-index.index + 1) (omega arith) c.loop-index.invariant.closes c.in_err-close_frame_if_open.ensures.closes)

pub returns-clause-closes : goal.returns-clause-closes
returns-clause-closes g c = closes_done (g.F.Frames.shape c.args.frames.now) _ c.loop-index.index _ (omega (arith, c.from-index-end.ensures, c.count.ensures)) c.loop-index.invariant.closes
