use Rattle.std.proofs.Common.{◌≡◌, map, take, Some}
use Rattle.serde_json.specs.View.{view}
use Rattle.hpb_define.specs.Spelling.{whole, each}
use Rattle.hpb_define.proofs.reading.numbers.Given as goal

abbrev pub invariant-loop-item : goal.invariant-loop-item
invariant-loop-item l = each whole (map view (take l.item-index l.items)) ≡ Some l.numbers.items
