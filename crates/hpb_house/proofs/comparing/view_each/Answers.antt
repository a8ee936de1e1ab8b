use Rattle.std.proofs.Common.{◌<◌, ◌∙◌, arith, length, refl, slice_index_or}
use Rattle.std.proofs.Math.ListN.{length-set}
use Rattle.hpb_house.specs.Reports.{said, book_of, opened_of}
use Rattle.hpb_rings.specs.declared.report.Report.{Report}
use Rattle.hpb_house.proofs.Lists.{map-set, grew-set}
use Rattle.hpb_rules.proofs.Prefixes.{prefix_self, prefix_trans}
use Rattle.hpb_house.proofs.Totals.{said_same}
use Rattle.hpb_house.proofs.comparing.view_each.Goals as goal

pub loop-i-init : goal.loop-i-init
loop-i-init c = (record { said = refl; book = refl; opened = refl; later = λ k d lt. prefix_self (slice_index_or c.args.reports.now k d).viewer.list }, refl)

pub loop-i-preserved : goal.loop-i-preserved
loop-i-preserved c =
    let xs = c.loop-i.reports in
    let i = c.loop-i.i in
    let y = c.view_again.new.self in
    let d = c.index-reports-i.result in
    let was : Report = slice_index_or xs i d in
    let inv = c.loop-i.invariant in
    let same = c.view_again.ensures.same in
    let whose = c.view_again.ensures.viewer in
    let lt : i < length xs = omega (arith, c.loop-i-test.true, c.loop-i.auto.reports) in (
      record {
        said = map-set said xs i y d (said_same y was same.0 same.1 same.2 same.3 same.4) ∙ inv.0.said;
        book = map-set book_of xs i y d whose.0 ∙ inv.0.book;
        opened = map-set opened_of xs i y d whose.1 ∙ inv.0.opened;
        later = λ k e within. prefix_trans _ _ _ (inv.0.later k e within) (grew-set (λ (r : Report). r.viewer.list) xs i y d c.view_again.ensures.later lt k e);
      },
      length-set xs i y ∙ inv.1,
    )
