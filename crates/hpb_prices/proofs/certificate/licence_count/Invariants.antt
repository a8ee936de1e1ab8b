use Rattle.std.proofs.Common.{◌≡◌}
use Rattle.hpb_tree.specs.Licences.{licence_number}
use Rattle.hpb_prices.proofs.certificate.licence_count.Given as goal

abbrev pub invariant-loop-node : goal.invariant-loop-node
invariant-loop-node l = l.count ≡ licence_number l.tree.nodes l.node-index
