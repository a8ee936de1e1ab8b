use Rattle.std.proofs.Common.{◌≡◌, sym, ◌∙◌, arith}
use Rattle.hpb_units.specs.Activity.{is_active_on}
use Rattle.hpb_units.proofs.Masks.{gathered_more, gathered_same}
use Rattle.hpb_units.proofs.units.licences_held.Goals.{then-is_active_on, else-is_active_on}
use Rattle.hpb_units.proofs.units.licences_held.Goals as goal

pub loop-node-preserved : goal.loop-node-preserved
loop-node-preserved c =
    let test = is_active_on c.args.books.now c.args.outcome.now c.args.bidder in
    let here : c.node-item.result ≡ c.loop-node.node-index = c.node-item.is ∙ c.nodes-node-items.ensures.each c.loop-node.node-index c.node-item.result (omega arith) in
    elim c.if-is_active_on.branch [
      | then-is_active_on w ↦ rw w.licences-is (gathered_more c.args.tree.now.nodes test c.loop-node.invariant here (sym c.is_active_on.ensures ∙ w.if-is_active_on.true) w.licences-licences.ensures)
      | else-is_active_on w ↦ rw w.licences-is (gathered_same c.args.tree.now.nodes test c.loop-node.invariant here (sym c.is_active_on.ensures ∙ w.if-is_active_on.false))
    ]
