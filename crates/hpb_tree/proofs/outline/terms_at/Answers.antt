use Rattle.std.proofs.Common.{sym}
use Rattle.hpb_tree.proofs.Said.{terms_of-nodes_said}
use Rattle.hpb_tree.proofs.outline.terms_at.Goals as goal

pub returns : goal.returns
returns c = sym (terms_of-nodes_said c.args.nodes.now c.args.place c.index-nodes-place.result c.requires)
