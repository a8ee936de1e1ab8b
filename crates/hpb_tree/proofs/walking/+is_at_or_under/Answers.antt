use Rattle.std.proofs.Common.{◌<◌, sym, ◌∙◌, arith}
use Rattle.hpb_tree.specs.Draft.{nodes_said}
use Rattle.hpb_tree.proofs.Walks.{ordered, under_parent}
use Rattle.hpb_tree.proofs.walking.+is_at_or_under.Goals as goal

pub is_at_or_under-requires : goal.is_at_or_under-requires
is_at_or_under-requires t c =
    let above : c.in-Some.parent < c.args.place = (ordered (nodes_said c.args.nodes.now) c.requires.before).before c.args.place c.in-Some.parent (sym c.in-Some.ensures) in
    (omega arith, (c.requires.before, omega arith))

pub returns-in-Some : goal.returns-in-Some
returns-in-Some t c =
    c.is_at_or_under.ensures
    ∙ under_parent (nodes_said c.args.nodes.now) (ordered (nodes_said c.args.nodes.now) c.requires.before) c.args.above c.args.place c.in-Some.parent c.if-above-place.false (sym c.in-Some.ensures)
