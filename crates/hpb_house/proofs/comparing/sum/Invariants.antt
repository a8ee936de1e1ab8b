use Rattle.std.proofs.Common.{◌≡◌, ◌-◌, ◌^◌, min, take}
use Rattle.hpb_house.specs.Reports.{total}
use Rattle.hpb_house.proofs.comparing.sum.Given as goal

abbrev pub invariant-loop-i : goal.invariant-loop-i
invariant-loop-i l = l.sum ≡ min (total (take l.i l.reports)) (2 ^ 64 - 1)
