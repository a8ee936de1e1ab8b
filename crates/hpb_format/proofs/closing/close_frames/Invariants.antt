use Rattle.std.proofs.Common.{◌<◌, ℕ}
use Rattle.std.specs.Prelude.{Ok}
use Rattle.hpb_format.specs.Asking.{Closes}
use Rattle.hpb_journal.specs.declared.limits.TheConstants.{JOURNAL_AT}
use Rattle.hpb_journal.specs.Frames.{IsClosed}
use Rattle.hpb_disk.specs.Images.{SameBefore}
use Rattle.hpb_format.proofs.closing.close_frames.Given as goal

-- The frames so far are closed, and nothing changed before the journal.
abbrev pub invariant-loop-index : goal.invariant-loop-index
invariant-loop-index g l = record {
  closed : (b : ℕ) → b < l.index → IsClosed (g.F.Frames.layout l.frames) b (g.D.Disk.device l.disk).seen;
  before : SameBefore JOURNAL_AT (g.D.Disk.device l.fn.disk).seen (g.D.Disk.device l.disk).seen;
  closes : Closes {T = Unit {0}} {E = Unit {0}} (g.F.Frames.shape l.frames) l.index (Ok tt) (g.D.Disk.device l.fn.disk) (g.D.Disk.device l.disk);
}
