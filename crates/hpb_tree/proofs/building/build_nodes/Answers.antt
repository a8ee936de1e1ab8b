use Rattle.std.proofs.Common.{arith}
use Rattle.hpb_tree.specs.Draft.{nodes_said}
use Rattle.hpb_tree.proofs.Said.{length-nodes_said}
use Rattle.hpb_tree.proofs.Views.{built_more}
use Rattle.hpb_tree.proofs.building.build_nodes.Goals as goal

pub loop-place-preserved : goal.loop-place-preserved
loop-place-preserved c =
    rw c.in_ok-push.ensures.items
    (built_more (nodes_said c.args.nodes.now) c.loop-place.built.items c.loop-place.place c.in_ok-build_node.field-0 (omega (arith, length-nodes_said c.args.nodes.now))
    c.loop-place.invariant c.in_ok-build_node.ensures.view c.in_ok-build_node.ensures.sums)
