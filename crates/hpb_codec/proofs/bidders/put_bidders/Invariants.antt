use Rattle.std.proofs.Common.{◌≡◌, ◌*◌, ◌++◌, take}
use Rattle.std.specs.List.{flat_map}
use Rattle.hpb_codec.specs.Numbers.{before}
use Rattle.hpb_codec.specs.BidderPages.{bidder_of}
use Rattle.hpb_codec.proofs.bidders.put_bidders.Given as goal

abbrev pub invariant-loop-place : goal.invariant-loop-place
invariant-loop-place l = record {
  place : l.at ≡ l.place * 24;
  text : before l.at l.page ≡ before 0 l.fn.page ++ flat_map bidder_of (take l.place l.definition.bidders);
}
