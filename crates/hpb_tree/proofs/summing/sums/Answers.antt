use Rattle.std.proofs.Common.{arith}
use Rattle.hpb_tree.specs.Draft.{nodes_said}
use Rattle.hpb_tree.proofs.Said.{length-nodes_said}
use Rattle.hpb_tree.proofs.Sound.{units_more, units_within, units_room, opening_more, opening_within, opening_room}
use Rattle.hpb_tree.proofs.summing.sums.Goals as goal

pub overflow_add-units : goal.overflow_add-units
overflow_add-units c = omega (arith, length-nodes_said c.args.nodes.now, units_room (nodes_said c.args.nodes.now) c.requires c.args.node c.loop-place.place (omega (arith, length-nodes_said c.args.nodes.now)))

pub overflow_add-opening : goal.overflow_add-opening
overflow_add-opening c = omega (arith, length-nodes_said c.args.nodes.now, opening_room (nodes_said c.args.nodes.now) c.requires c.args.node c.loop-place.place (omega (arith, length-nodes_said c.args.nodes.now)))

pub loop-place-preserved : goal.loop-place-preserved
loop-place-preserved c = record {
  units = omega (arith, units_more (nodes_said c.args.nodes.now) c.args.node c.loop-place.place);
  opening = omega (arith, opening_more (nodes_said c.args.nodes.now) c.args.node c.loop-place.place);
}

pub returns-clause-most_units : goal.returns-clause-most_units
returns-clause-most_units c = omega (arith, units_within (nodes_said c.args.nodes.now) c.requires c.args.node c.loop-place.place (omega (arith, length-nodes_said c.args.nodes.now)))

pub returns-clause-most_opening : goal.returns-clause-most_opening
returns-clause-most_opening c = omega (arith, opening_within (nodes_said c.args.nodes.now) c.requires c.args.node c.loop-place.place (omega (arith, length-nodes_said c.args.nodes.now)))
