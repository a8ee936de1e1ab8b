use Rattle.std.proofs.Common.{take}
use Rattle.hpb_tree.specs.Inside.{AreCopies}
use Rattle.hpb_tree.proofs.tree.copy_nodes.Given as goal

abbrev pub invariant-loop-node : goal.invariant-loop-node
invariant-loop-node l = AreCopies (take l.node-index l.nodes) l.copied.items
