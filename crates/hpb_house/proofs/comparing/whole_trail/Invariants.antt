use Rattle.std.proofs.Common.{◌≡◌, ◌<◌, ℕ, slice_index_or}
use mathlib.Core.List.{IsPrefix}
use Rattle.hpb_rings.specs.declared.report.Report.{Report}
use Rattle.hpb_house.proofs.comparing.whole_trail.Given as goal

abbrev pub invariant-loop-i : goal.invariant-loop-i
invariant-loop-i l = (l.all.book ≡ l.shown.book) × IsPrefix l.shown.log l.all.log × ((k : ℕ) (d : Report) → k < l.i → IsPrefix (slice_index_or l.reports k d).viewer.list l.all.log)
