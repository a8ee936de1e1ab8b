use Rattle.std.proofs.Common.{ap, ◌∙◌, Some}
use Rattle.hpb_rules.specs.Tree.{TreeRules}
use Rattle.hpb_tree.proofs.Found.{node_position}
use Rattle.hpb_tree.proofs.tree.Tree.find_node.Goals as goal

pub returns-in-Some-clause-value : goal.returns-in-Some-clause-value
returns-in-Some-clause-value c = ap Some c.new.ensures ∙ rw c.as_slice.ensures.value at c.in-Some.ensures.value ∙ node_position c.self.inside.nodes.items c.args.name.now (ap (λ (r : TreeRules). r.nodes) c.self.view_is)

pub returns-in-None-clause-value : goal.returns-in-None-clause-value
returns-in-None-clause-value c = rw c.as_slice.ensures.value at c.in-None.ensures.value ∙ node_position c.self.inside.nodes.items c.args.name.now (ap (λ (r : TreeRules). r.nodes) c.self.view_is)
