use Rattle.std.proofs.Common.{drop}
use Rattle.left_right.specs.Sides.{view}
use Rattle.hpb_board.proofs.Keeping.{stays, is_shown}
use Rattle.hpb_board.proofs.writing.show.Goals as goal

pub publish_as-writer-requires : goal.publish_as-writer-requires
publish_as-writer-requires g c next is =
    let r = c.requires in
    let w = c.args.writer in
    let t = c.args.trail.now in
    stays w.desk.shown.value next (drop w.behind w.log.items) t.book t.log r.book r.leads is w.desk.place.id _

pub returns-clause-kept : goal.returns-clause-kept
returns-clause-kept g c =
    let old = c.args.writer in
    let w = c.publish_as-writer.result.0 in
    let t = c.args.trail.now in
    let values = rw c.in-Ok.is at c.publish_as-writer.ensures.values in
    let rule = rw c.in-Ok.is at c.publish_as-writer.ensures.rule in
    let r = (is_shown old.desk.shown.value w.desk.shown.value (view old.desk.place) (drop old.behind old.log.items) t.book t.log c.requires values.0).0 in
    rw (rule, values.1) r

pub returns-clause-list : goal.returns-clause-list
returns-clause-list g c =
    let old = c.args.writer in
    let w = c.publish_as-writer.result.0 in
    let t = c.args.trail.now in
    let values = rw c.in-Ok.is at c.publish_as-writer.ensures.values in
    (is_shown old.desk.shown.value w.desk.shown.value (view old.desk.place) (drop old.behind old.log.items) t.book t.log c.requires values.0).1
