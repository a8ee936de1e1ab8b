use Rattle.std.proofs.Common.{◌≡◌}
use Rattle.hpb_units.specs.Inside.{IsKept}
use Rattle.hpb_units.proofs.Numbers.{Tabled}
use Rattle.hpb_units.proofs.holdings.Holdings.find_licence_units.Given as goal

abbrev pub invariant-loop-node : goal.invariant-loop-node
invariant-loop-node l = record {
  tabled : Tabled l.tree.nodes l.node-index l.number l.self-inside.licence_units.items;
  kept : IsKept l.self-inside;
  same_licences : l.self-inside.licences.items ≡ l.fn.self.licences;
  same_units : l.self-inside.units.items ≡ l.fn.self.units;
}
