use Rattle.std.proofs.Common.{◌≡◌, ◌∙◌}
use Rattle.hpb_tree.specs.Definition.{bidders_view}
use Rattle.hpb_tree.proofs.definition.Definition.copy.Goals as goal

pub invariant_of-result : goal.invariant_of-result
invariant_of-result c =
    let stages : c.in_ok-stages.stages.items ≡ c.self.inside.stages.items = rw c.as_slice.ensures.value at (c.in_ok-stages.ensures.items_if_clones_equal (λ one other same. same)) in
    let bidders : bidders_view c.in_ok-bidders.bidders.items ≡ bidders_view c.self.inside.bidders.items = rw c.as_slice-2.ensures.value at c.in_ok-bidders.ensures in
    record {
      accepted = rw (c.in_ok-tree.ensures, stages, bidders) c.self.invariant.accepted;
      node_keys = rw c.in_ok-tree.ensures (c.in_ok-node_hints.ensures ∙ c.self.invariant.node_keys);
      bidder_keys = rw bidders (c.in_ok-bidder_hints.ensures ∙ c.self.invariant.bidder_keys);
    }
