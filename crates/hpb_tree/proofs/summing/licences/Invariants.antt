use Rattle.hpb_tree.specs.Draft.{nodes_said}
use Rattle.hpb_tree.proofs.Masks.{Filled}
use Rattle.hpb_tree.proofs.summing.licences.Given as goal

abbrev pub invariant-loop-place : goal.invariant-loop-place
invariant-loop-place l = Filled (nodes_said l.nodes) l.node l.place l.mask l.number
