use Rattle.std.proofs.Common.{◌<◌, sym, ap, ◌+◌, arith}
use Rattle.hpb_tree.specs.Draft.{nodes_said}
use Rattle.hpb_rules.proofs.Depths.{depth_below}
use Rattle.hpb_tree.proofs.Walks.{ordered}
use Rattle.hpb_tree.proofs.walking.+depth.Goals as goal

pub depth-requires : goal.depth-requires
depth-requires t c =
    let above : c.in-Some.parent < c.args.place = (ordered (nodes_said c.args.nodes.now) c.requires.before).before c.args.place c.in-Some.parent (sym c.in-Some.ensures) in
    (omega arith, (c.requires.before, omega arith))

pub overflow_add-result : goal.overflow_add-result
overflow_add-result t c =
    let above : c.in-Some.parent < c.args.place = (ordered (nodes_said c.args.nodes.now) c.requires.before).before c.args.place c.in-Some.parent (sym c.in-Some.ensures) in
    omega arith

pub returns-in-Some-clause-value : goal.returns-in-Some-clause-value
returns-in-Some-clause-value t c =
    let nodes = nodes_said c.args.nodes.now in
    omega (arith, ap (λ n. 1 + n) c.depth.ensures.value, depth_below nodes (ordered nodes c.requires.before) c.args.place c.in-Some.parent (sym c.in-Some.ensures))

pub returns-in-Some-clause-most : goal.returns-in-Some-clause-most
returns-in-Some-clause-most t c =
    let above : c.in-Some.parent < c.args.place = (ordered (nodes_said c.args.nodes.now) c.requires.before).before c.args.place c.in-Some.parent (sym c.in-Some.ensures) in
    omega arith
