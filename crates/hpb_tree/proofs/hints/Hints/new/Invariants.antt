use Rattle.std.proofs.Common.{◌≡◌, ◌<◌, length, map, take}
use Rattle.std.specs.List.{All}
use Rattle.hpb_tree.specs.Keys.{key_of}
use Rattle.hpb_tree.proofs.hints.Hints.new.Given as goal

abbrev pub invariant-loop-place : goal.invariant-loop-place
invariant-loop-place g l = record {
  size : length l.places.items ≡ 4096;
  within : All (λ place. place < length l.items) l.places.items;
  keys : l.keys.items ≡ map (λ item. key_of (g.T.Named.named item)) (take l.place l.items);
}
