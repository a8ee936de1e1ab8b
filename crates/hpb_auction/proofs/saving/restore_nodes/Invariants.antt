use Rattle.std.proofs.Common.{◌≡◌, length, map, take}
use Rattle.hpb_rules.specs.declared.saved.SavedNode.{SavedNode}
use Rattle.hpb_auction.proofs.saving.restore_nodes.Given as goal

abbrev pub invariant-loop-place : goal.invariant-loop-place
invariant-loop-place l = record {
  standing : take l.place l.books.standing ≡ take l.place (map (λ (node : SavedNode). node.high) l.nodes);
  incoming : take l.place l.books.incoming ≡ take l.place (map (λ (node : SavedNode). node.incoming) l.nodes);
  many_standing : length l.books.standing ≡ 127;
  many_incoming : length l.books.incoming ≡ 127;
  bids : l.books.bids ≡ l.initial.books.bids;
}
