use Rattle.std.proofs.Common.{◌≡◌, ◌≤◌}
use Rattle.std.specs.List.{range_with_len}
use Rattle.hpb_rules.specs.Prices.{children_among}
use Rattle.hpb_tree.specs.Draft.{nodes_said}
use Rattle.hpb_tree.proofs.outline.children_before.Given as goal

abbrev pub invariant-loop-place : goal.invariant-loop-place
invariant-loop-place l = (l.count ≡ children_among (nodes_said l.nodes) l.parent (range_with_len 0 l.place)) × (l.count ≤ l.place)
