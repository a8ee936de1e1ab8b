use Rattle.std.proofs.Common.{◌≡◌, ◌*◌, ◌++◌, take}
use Rattle.std.specs.List.{flat_map}
use Rattle.hpb_codec.specs.Numbers.{before}
use Rattle.hpb_codec.specs.NodePages.{node_of}
use Rattle.hpb_codec.proofs.nodes.put_nodes.Given as goal

abbrev pub invariant-loop-place : goal.invariant-loop-place
invariant-loop-place l = record {
  place : l.at ≡ l.place * 32;
  text : before l.at l.page ≡ before 0 l.fn.page ++ flat_map node_of (take l.place l.definition.nodes);
}
