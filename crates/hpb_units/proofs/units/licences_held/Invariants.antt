use Rattle.hpb_units.specs.Activity.{is_active_on}
use Rattle.hpb_units.proofs.Masks.{Gathered}
use Rattle.hpb_units.proofs.units.licences_held.Given as goal

abbrev pub invariant-loop-node : goal.invariant-loop-node
invariant-loop-node l = Gathered l.tree.nodes (is_active_on l.books l.outcome l.bidder) l.node-index l.licences
