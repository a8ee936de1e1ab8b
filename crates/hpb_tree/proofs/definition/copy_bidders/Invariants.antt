use Rattle.std.proofs.Common.{◌≡◌, take}
use Rattle.hpb_tree.specs.Definition.{bidders_view}
use Rattle.hpb_tree.proofs.definition.copy_bidders.Given as goal

abbrev pub invariant-loop-bidder : goal.invariant-loop-bidder
invariant-loop-bidder l = bidders_view l.copied.items ≡ bidders_view (take l.bidder-index l.bidders)
