use Rattle.std.proofs.Common.{◌≡◌, length}
use Rattle.hpb_house.specs.Reports.{Viewed}
use Rattle.hpb_house.proofs.comparing.view_each.Given as goal

abbrev pub invariant-loop-i : goal.invariant-loop-i
invariant-loop-i l = Viewed l.fn.reports l.reports × (length l.reports ≡ length l.fn.reports)
