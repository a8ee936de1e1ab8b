use Rattle.std.proofs.Common.{inr, refl}
use Rattle.hpb_format.proofs.Calls.{closes_after, one_closes, read_closes, read_fails}
use Rattle.hpb_format.proofs.Closed.{frame_closes}
use Rattle.hpb_journal.specs.Places.{closes_frame}
use Rattle.hpb_format.proofs.closing.close_frame_if_open.Goals as goal

pub returns-in_err-read_frame-clause-closes : goal.returns-in_err-read_frame-clause-closes
returns-in_err-read_frame-clause-closes g c =
    let read = c.in_err-read_frame.ensures in read_fails (g.F.Frames.shape c.args.frames.now) _ c.from_residual.result 1 c.from_residual.ensures.1 read.unchanged read.call

pub returns-then-matches-clause-closes : goal.returns-then-matches-clause-closes
returns-then-matches-clause-closes g c = let read = c.in_ok-read_frame.ensures in read_closes (g.F.Frames.shape c.args.frames.now) tt 1 read.unchanged read.call

pub returns-clause-closes : goal.returns-clause-closes
returns-clause-closes g c =
    let journal = g.F.Frames.shape c.args.frames.now in let read = c.in_ok-read_frame.ensures in let close = c.close_frame.ensures in
    closes_after journal c.close_frame.result 1 read.unchanged read.call
    (one_closes journal (closes_frame journal c.args.index) (inr (inr (c.args.index, refl))) close.size (close.call refl) (frame_closes (g.F.Frames.layout c.args.frames.now) c.args.index (close.crash refl)))
