use Rattle.std.proofs.Common.{◌≡◌, ◌<◌, ℕ, slice_index_or}
use Rattle.hpb_board.specs.Publication.{auction_of}
use Rattle.hpb_rings.specs.declared.report.Report.{Report}
use Rattle.hpb_house.proofs.comparing.all_show.Given as goal

abbrev pub invariant-loop-i : goal.invariant-loop-i
invariant-loop-i l = (k : ℕ) (d : Report) → k < l.i → auction_of (slice_index_or l.reports k d).viewer ≡ l.committed
