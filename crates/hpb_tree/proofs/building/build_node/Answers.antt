use Rattle.std.proofs.Common.{ap, sym, ◌∙◌, string_bytes}
use Rattle.hpb_tree.specs.declared.draft.NodeDraft.{NodeDraft}
use Rattle.hpb_tree.proofs.Said.{node_from}
use Rattle.hpb_tree.proofs.building.build_node.Goals as goal

pub returns-clause-view : goal.returns-clause-view
returns-clause-view c =
    node_from c.args.nodes.now c.args.place c.index-nodes-place.result c.requires.within c.index-nodes-place.is
    (c.in_ok-name.ensures.ok ∙ c.as_str.ensures.value ∙ ap (λ (m : NodeDraft). string_bytes m.name) (sym c.index-nodes-place.is)) c.parent.ensures c.terms.ensures
