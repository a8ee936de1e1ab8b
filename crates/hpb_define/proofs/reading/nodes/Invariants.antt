use Rattle.std.proofs.Common.{◌≡◌, [], map, take, Some}
use Rattle.serde_json.specs.View.{view}
use Rattle.hpb_define.specs.Places.{Places}
use Rattle.hpb_tree.specs.Draft.{node_said}
use Rattle.hpb_define.specs.Spelling.{nodes_after}
use Rattle.hpb_define.proofs.reading.nodes.Given as goal

abbrev pub invariant-loop-item : goal.invariant-loop-item
invariant-loop-item l = record {
  so_far : nodes_after [] (map view (take l.item-index l.items)) ≡ Some (map node_said l.nodes.items);
  places : Places l.places (map node_said l.nodes.items);
}
