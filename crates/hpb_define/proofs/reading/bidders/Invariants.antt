use Rattle.std.proofs.Common.{◌≡◌, map, take, Some}
use Rattle.serde_json.specs.View.{view}
use Rattle.hpb_tree.specs.Draft.{bidder_said}
use Rattle.hpb_define.specs.Spelling.{bidder_of, each}
use Rattle.hpb_define.proofs.reading.bidders.Given as goal

abbrev pub invariant-loop-item : goal.invariant-loop-item
invariant-loop-item l = each bidder_of (map view (take l.item-index l.items)) ≡ Some (map bidder_said l.bidders.items)
