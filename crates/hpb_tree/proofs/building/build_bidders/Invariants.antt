use Rattle.std.proofs.Common.{◌≡◌, take}
use Rattle.hpb_tree.specs.Definition.{bidders_view}
use Rattle.hpb_tree.specs.Draft.{bidders_said}
use Rattle.hpb_tree.proofs.building.build_bidders.Given as goal

abbrev pub invariant-loop-bidder : goal.invariant-loop-bidder
invariant-loop-bidder l = bidders_view l.built.items ≡ bidders_said (take l.bidder-index l.bidders)
