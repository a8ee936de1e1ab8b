use Rattle.std.proofs.Common.{◌≡◌, [], ◌∷◌, map, length, Some, sym, ap, ◌∙◌}
use Rattle.std.proofs.lemmas.List.{map-append, length-map}
use Rattle.std.proofs.lemmas.Result.{err_from_is_err_and}
use Rattle.hpb_tree.specs.Draft.{node_said}
use Rattle.hpb_define.proofs.Nodes.{nodes_more, nodes_fail}
use Rattle.hpb_define.proofs.reading.nodes.Goals as goal

pub returns-in_err-node : goal.returns-in_err-node
returns-in_err-node c =
    let earlier = map node_said c.loop-item.nodes.items in
    let here : length earlier ≡ c.len-place.result = length-map c.loop-item.nodes.items node_said ∙ sym c.loop-item.nodes.ok.0 ∙ sym c.len-place.ensures in
    let e = err_from_is_err_and c.from_residual.result c.from_residual.ensures.1 in
    rw (e.1, e.2)
    (nodes_fail c.args.items.now c.loop-item.item-index c.item-item.result earlier c.loop-item-test.true c.item-item.is c.loop-item.invariant.so_far c.in_err-node.field-0.0
    (c.in_err-node.ensures earlier c.loop-item.invariant.places here))

pub loop-item-preserved : goal.loop-item-preserved
loop-item-preserved c =
    let earlier = map node_said c.loop-item.nodes.items in
    let here : length earlier ≡ c.len-place.result = length-map c.loop-item.nodes.items node_said ∙ sym c.loop-item.nodes.ok.0 ∙ sym c.len-place.ensures in
    let pushed = ap (map node_said) c.in_ok-push.ensures.items ∙ map-append node_said c.loop-item.nodes.items (c.in_ok-node.node ∷ []) in
    record {
      so_far =
          nodes_more c.args.items.now c.loop-item.item-index c.item-item.result earlier c.loop-item-test.true c.item-item.is c.loop-item.invariant.so_far (node_said c.in_ok-node.node)
          (c.in_ok-node.ensures earlier c.loop-item.invariant.places here)
          ∙ ap Some (sym pushed);
      places = rw pushed (c.in_ok-note_place.ensures earlier (node_said c.in_ok-node.node) c.loop-item.invariant.places here (sym c.as_str.ensures.value));
    }
