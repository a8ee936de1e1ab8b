use Rattle.std.proofs.Common.{◌≡◌, ◌-◌, ◌*◌, List, length, take, drop}
use Rattle.std.specs.List.{flat_map, AllByRecursion}
use Rattle.hpb_rules.specs.Tree.{Node}
use Rattle.hpb_tree.specs.Draft.{nodes_said}
use Rattle.hpb_codec.specs.NodePages.{node_of, node_page_of, HasEntry}
use Rattle.hpb_codec.proofs.nodes.nodes_in.Given as goal

abbrev pub invariant-loop : goal.invariant-loop
invariant-loop l = record {
  left : length l.rest ≡ (l.count - l.counter) * 32;
  only : (nodes : List Node) → length nodes ≡ l.count → AllByRecursion HasEntry nodes → l.page ≡ node_page_of nodes → (l.rest ≡ flat_map node_of (drop l.counter nodes)) × (nodes_said l.nodes.items ≡ take l.counter nodes);
}
