use Rattle.std.proofs.Common.{◌<◌, ◌∙◌, ℕ, List, ap, arith, subst, sym, slice_index_or}
use mathlib.Core.List.{IsPrefix}
use Rattle.hpb_rules.specs.declared.letter.Letter.{Letter}
use Rattle.hpb_rings.specs.declared.report.Report.{Report}
use Rattle.hpb_rules.proofs.Prefixes.{prefix_self, prefix_trans}
use Rattle.hpb_house.proofs.Lists.{each-next}
use Rattle.hpb_house.proofs.comparing.whole_trail.Goals as goal

pub loop-i-init : goal.loop-i-init
loop-i-init c =
    let same = c.again-all.ensures in
    (ap (λ t. t.book) same, subst (λ t. IsPrefix c.args.shown.now.log t.log) (sym same) (prefix_self c.args.shown.now.log), λ k d lt. absurd (omega (arith, lt)))

pub loop-i-preserved : goal.loop-i-preserved
loop-i-preserved c =
    let xs = c.args.reports.now in
    let i = c.loop-i.i in
    let new : List (List Letter) = c.teach.new.all.log in
    let P : Report → Type 0 = λ r. IsPrefix r.viewer.list new in
    let old = λ (k : ℕ) (d : Report) (lt : k < i). prefix_trans (slice_index_or xs k d).viewer.list c.loop-i.all.log new (c.loop-i.invariant.2 k d lt) c.teach.ensures.both.0 in
    let one : P (slice_index_or xs i c.index-reports-i.result) = c.teach.ensures.both.1 in
    (c.teach.ensures.book ∙ c.loop-i.invariant.0, prefix_trans _ _ _ c.loop-i.invariant.1 c.teach.ensures.both.0, λ k d lt. each-next P xs i c.index-reports-i.result c.loop-i-test.true old one k d (omega (arith, lt)))
