use Rattle.std.proofs.Common.{◌≡◌}
use Rattle.std.specs.List.{sum_by, range_with_len}
use Rattle.hpb_rules.specs.Tree.{at_or_under, units_at, opening_at}
use Rattle.hpb_tree.specs.Draft.{nodes_said}
use Rattle.hpb_tree.specs.Licences.{part_over}
use Rattle.hpb_tree.proofs.summing.sums.Given as goal

abbrev pub invariant-loop-place : goal.invariant-loop-place
invariant-loop-place l = record {
  units : l.units ≡ sum_by (part_over (nodes_said l.nodes) (λ m. at_or_under (nodes_said l.nodes) l.node m) (units_at (nodes_said l.nodes))) (range_with_len 0 l.place);
  opening : l.opening ≡ sum_by (part_over (nodes_said l.nodes) (λ m. at_or_under (nodes_said l.nodes) l.node m) (opening_at (nodes_said l.nodes))) (range_with_len 0 l.place);
}
