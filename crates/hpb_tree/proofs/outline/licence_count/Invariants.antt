use Rattle.std.proofs.Common.{◌≡◌, ◌≤◌}
use Rattle.std.specs.List.{range_with_len}
use Rattle.hpb_tree.specs.Licences.{licences_among}
use Rattle.hpb_tree.specs.Draft.{nodes_said}
use Rattle.hpb_tree.proofs.outline.licence_count.Given as goal

abbrev pub invariant-loop-place : goal.invariant-loop-place
invariant-loop-place l = (l.count ≡ licences_among (nodes_said l.nodes) (range_with_len 0 l.place)) × (l.count ≤ l.place)
