use Rattle.std.proofs.Common.{◌≡◌, length, map, take}
use Rattle.hpb_rules.specs.declared.saved.SavedBidder.{SavedBidder}
use Rattle.hpb_auction.proofs.saving.restore_bids.Given as goal

abbrev pub invariant-loop-place : goal.invariant-loop-place
invariant-loop-place l = record {
  standing : l.books.standing ≡ l.initial.books.standing;
  incoming : l.books.incoming ≡ l.initial.books.incoming;
  bids : take l.place l.books.bids ≡ take l.place (map (λ (bidder : SavedBidder). bidder.bid_on) l.bidders);
  many : length l.books.bids ≡ 64;
}
