use Rattle.std.proofs.Common.{sym, ◌∙◌, arith}
use Rattle.hpb_rules.specs.Choices.{is_node}
use Rattle.hpb_rules.specs.Tree.{parent_of}
use Rattle.hpb_tree.specs.Draft.{nodes_said}
use Rattle.hpb_rules.proofs.Places.{count_yes, count_no}
use Rattle.hpb_tree.proofs.outline.children_before.Goals as goal
use Rattle.hpb_tree.proofs.outline.children_before.Goals.{then-is_child, else-is_child}

pub loop-place-preserved : goal.loop-place-preserved
loop-place-preserved c =
    elim c.if-is_child.branch [
      | then-is_child w ↦ (w.count-is ∙ count_yes (λ m. is_node c.args.parent (parent_of (nodes_said c.args.nodes.now) m)) _ _ (sym c.is_child.ensures ∙ w.if-is_child.true) c.loop-place.invariant.0, omega arith)
      | else-is_child w ↦ (w.count-is ∙ count_no (λ m. is_node c.args.parent (parent_of (nodes_said c.args.nodes.now) m)) _ _ (sym c.is_child.ensures ∙ w.if-is_child.false) c.loop-place.invariant.0, omega arith)
    ]
