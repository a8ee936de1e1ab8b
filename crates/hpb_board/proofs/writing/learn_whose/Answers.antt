use Rattle.std.proofs.Common.{◌∙◌, ap, sym, subst, ◌≡◌, [], List, drop, length, replicate}
use Rattle.hpb_board.specs.Rows.{blank}
use Rattle.hpb_board.specs.Contents.{content}
use Rattle.hpb_board.specs.declared.board.Content.{Content}
use Rattle.hpb_board.specs.declared.row.Row.{Row}
use Rattle.hpb_board.proofs.Keeping.{blank_fold, has_opened, opens}
use Rattle.hpb_board.proofs.writing.learn_whose.Goals as goal

pub publish_as-writer-requires : goal.publish_as-writer-requires
publish_as-writer-requires g c next is =
    let w = c.args.writer in
    let x = w.desk.shown.value in
    let same : content next ≡ content x = is ∙ blank_fold x (drop w.behind w.log.items) c.requires.pending in
    let empty : next.trail.log ≡ [] = ap (λ (k : Content). k.trail.log) same ∙ c.requires.empty in
    let fresh = subst (λ (rs : List Row). rs ≡ replicate (length rs) blank) (sym (ap (λ (k : Content). k.shown.rows) same)) c.requires.fresh in
    opens x next same empty fresh _ _

pub returns-clause-shown : goal.returns-clause-shown
returns-clause-shown g c =
    let w = c.args.writer in
    let values = rw c.in-Ok.is at c.publish_as-writer.ensures.values in
    values.0 ∙ blank_fold w.desk.shown.value (drop w.behind w.log.items) c.requires.pending

pub returns-clause-kept : goal.returns-clause-kept
returns-clause-kept g c =
    let y = c.publish_as-writer.result.0.desk.shown.value in
    let values = rw c.in-Ok.is at c.publish_as-writer.ensures.values in
    let rule = rw c.in-Ok.is at c.publish_as-writer.ensures.rule in
    let same = returns-clause-shown g c in
    let empty : y.trail.log ≡ [] = ap (λ (k : Content). k.trail.log) same ∙ c.requires.empty in
    let fresh = subst (λ (rs : List Row). rs ≡ replicate (length rs) blank) (sym (ap (λ (k : Content). k.shown.rows) same)) c.requires.fresh in
    has_opened y _ _ empty fresh rule values.1
