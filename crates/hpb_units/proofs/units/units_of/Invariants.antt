use Rattle.hpb_units.proofs.Counting.{Counted}
use Rattle.hpb_units.proofs.units.units_of.Given as goal

abbrev pub invariant-loop-node : goal.invariant-loop-node
invariant-loop-node l = Counted l.tree.nodes l.licences l.node-index l.total l.number
