use Rattle.std.proofs.Common.{◌≡◌, ◌-◌, ◌*◌, List, length, take, drop}
use Rattle.std.specs.List.{flat_map, AllByRecursion}
use Rattle.hpb_rules.specs.Tree.{Bidder}
use Rattle.hpb_tree.specs.Draft.{bidders_said}
use Rattle.hpb_codec.specs.BidderPages.{bidder_of, bidder_page_of, HasEntry}
use Rattle.hpb_codec.proofs.bidders.bidders_in.Given as goal

abbrev pub invariant-loop : goal.invariant-loop
invariant-loop l = record {
  left : length l.rest ≡ (l.count - l.counter) * 24;
  only : (bidders : List Bidder) → length bidders ≡ l.count → AllByRecursion HasEntry bidders → l.page ≡ bidder_page_of bidders → (l.rest ≡ flat_map bidder_of (drop l.counter bidders)) × (bidders_said l.bidders.items ≡ take l.counter bidders);
}
