use Rattle.std.proofs.Common.{sym, arith}
use Rattle.hpb_tree.specs.Draft.{nodes_said}
use Rattle.hpb_tree.proofs.Said.{length-nodes_said}
use Rattle.hpb_tree.proofs.Sound.{before}
use Rattle.hpb_tree.proofs.building.parent.Goals as goal

pub new-requires : goal.new-requires
new-requires c = omega (arith, c.requires.sound.most, length-nodes_said c.args.nodes.now, (before (nodes_said c.args.nodes.now) c.requires.sound).before c.args.place c.in-Some.parent (sym c.in-Some.ensures))
