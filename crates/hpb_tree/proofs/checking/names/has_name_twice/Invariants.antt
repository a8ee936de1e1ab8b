use Rattle.std.proofs.Common.{map}
use Rattle.hpb_tree.proofs.Seen.{Searched}
use Rattle.hpb_tree.proofs.checking.names.has_name_twice.Given as goal

abbrev pub invariant-loop-item : goal.invariant-loop-item
invariant-loop-item g l = Searched (map g.T.Named.named l.items) l.item-index l.seen.keys
