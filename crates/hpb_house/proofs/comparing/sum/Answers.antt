use Rattle.std.proofs.Common.{◌≡◌, ◌+◌, ◌∙◌, ℕ, arith, add-one, ap, take, slice_index_or}
use Rattle.hpb_house.specs.Reports.{total}
use Rattle.hpb_house.proofs.Totals.{total-next}
use Rattle.hpb_house.proofs.comparing.sum.Goals as goal

pub loop-i-preserved : goal.loop-i-preserved
loop-i-preserved c =
    let xs = c.args.reports.now in
    let i = c.loop-i.i in
    let d = c.index-reports-i.result in
    let next = total-next xs i d c.loop-i-test.true in
    let e : total (take (i + 1) xs) ≡ total (take i xs) + (slice_index_or xs i d).accepted = ap (λ (k : ℕ). total (take k xs)) (add-one i) ∙ next in
    omega (arith, e, c.saturating_add-sum.ensures, c.loop-i.invariant)
