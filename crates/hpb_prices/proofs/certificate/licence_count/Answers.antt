use Rattle.std.proofs.Common.{◌≡◌, sym, ◌∙◌, arith}
use Rattle.hpb_prices.proofs.LicenceSums.{number_most, number_at}
use Rattle.hpb_prices.proofs.certificate.licence_count.Goals.{then-is_some, else-is_some}
use Rattle.hpb_prices.proofs.certificate.licence_count.Goals as goal

pub overflow_add-count : goal.overflow_add-count
overflow_add-count c = omega (arith, number_most c.args.tree.now.nodes c.loop-node.node-index)

pub loop-node-preserved : goal.loop-node-preserved
loop-node-preserved c =
    let here : c.node-item.result ≡ c.loop-node.node-index = c.node-item.is ∙ c.nodes-node-items.ensures.each c.loop-node.node-index c.node-item.result (omega arith) in
    elim c.if-is_some.branch [
      | then-is_some w ↦ w.count-is ∙ number_at c.args.tree.now.nodes here c.terms.ensures (sym w.if-is_some.true ∙ c.is_some.ensures) c.loop-node.invariant
      | else-is_some w ↦ w.count-is ∙ omega arith ∙ number_at c.args.tree.now.nodes here c.terms.ensures (sym w.if-is_some.false ∙ c.is_some.ensures) c.loop-node.invariant
    ]

pub returns-clause-most : goal.returns-clause-most
returns-clause-most c = omega (arith, number_most c.args.tree.now.nodes c.loop-node.node-index)
