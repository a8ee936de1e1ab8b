use Rattle.std.proofs.Common.{◌≡◌, arith, ap, ◌∙◌}
use Rattle.hpb_rules.specs.Tree.{units}
use Rattle.hpb_units.proofs.Counting.{number_small, licence_at, counted_package, counted_other, counted_own}
use Rattle.hpb_units.proofs.units.units_of.Goals.{then-is_some, then-licences-number-eq1, else-licences-number-eq1, else-is_some}
use Rattle.hpb_units.proofs.units.units_of.Goals as goal

pub overflow_shr-licences : goal.overflow_shr-licences
overflow_shr-licences c =
    let here : c.node-item.result ≡ c.loop-node.node-index = c.node-item.is ∙ c.nodes-node-items.ensures.each c.loop-node.node-index c.node-item.result (omega arith) in
    omega (arith, number_small c.args.tree.now.nodes c.loop-node.node-index c.facts.ensures.most_licences (licence_at c.args.tree.now.nodes here c.terms.ensures c.is_some.ensures c.if-is_some.true))

pub overflow_add-total : goal.overflow_add-total
overflow_add-total c =
    let here : c.node-item.result ≡ c.loop-node.node-index = c.node-item.is ∙ c.nodes-node-items.ensures.each c.loop-node.node-index c.node-item.result (omega arith) in
    omega (arith, number_small c.args.tree.now.nodes c.loop-node.node-index c.facts.ensures.most_licences (licence_at c.args.tree.now.nodes here c.terms.ensures c.is_some.ensures c.if-is_some.true))

pub overflow_add-number : goal.overflow_add-number
overflow_add-number c =
    let here : c.node-item.result ≡ c.loop-node.node-index = c.node-item.is ∙ c.nodes-node-items.ensures.each c.loop-node.node-index c.node-item.result (omega arith) in
    omega (arith, number_small c.args.tree.now.nodes c.loop-node.node-index c.facts.ensures.most_licences (licence_at c.args.tree.now.nodes here c.terms.ensures c.is_some.ensures c.if-is_some.true))

pub loop-node-preserved : goal.loop-node-preserved
loop-node-preserved c =
    let here : c.node-item.result ≡ c.loop-node.node-index = c.node-item.is ∙ c.nodes-node-items.ensures.each c.loop-node.node-index c.node-item.result (omega arith) in
    let nodes = c.args.tree.now.nodes in
    elim c.if-is_some.branch [
      | then-is_some w ↦ elim w.if-licences-number-eq1.branch [
        | then-licences-number-eq1 w' ↦ rw (w.total-is, w.number-is, w'.total-is) (counted_own nodes c.args.licences c.loop-node.invariant c.facts.ensures.tree (licence_at nodes here c.terms.ensures c.is_some.ensures w.if-is_some.true)
            w'.if-licences-number-eq1.true (w'.units-total.ensures.value ∙ ap (units nodes) here) w'.units-total.ensures.most)
        | else-licences-number-eq1 w' ↦ rw (w.total-is, w.number-is, w'.total-is) (counted_other nodes c.args.licences c.loop-node.invariant (licence_at nodes here c.terms.ensures c.is_some.ensures w.if-is_some.true) w'.if-licences-number-eq1.false)
      ]
      | else-is_some w ↦ rw (w.total-is, w.number-is) (counted_package nodes c.args.licences c.loop-node.invariant
          (licence_at nodes here c.terms.ensures c.is_some.ensures w.if-is_some.false))
    ]
