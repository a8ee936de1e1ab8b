use Rattle.std.proofs.Common.{◌≡◌, ◌∙◌, refl, subst, sym, length, slice_index, arith, ap, ◌+◌}
use Rattle.std.proofs.lemmas.List.{length-set}
use Rattle.hpb_bids.specs.View.{bid_of}
use Rattle.hpb_prices.specs.Shares.{IsPassedDown}
use Rattle.hpb_prices.proofs.Carrying.{price_set}
use Rattle.hpb_prices.proofs.passing.pass_down.Goals as goal

pub loop-node-preserved : goal.loop-node-preserved
loop-node-preserved c =
    let node = c.node-item.result in
    let here : node ≡ c.loop-node.node-index = c.node-item.is ∙ c.nodes-node-items.ensures.each c.loop-node.node-index node (omega arith) in
    let carried = c.carried_to.ensures.value in
    let passed = c.pass_on.ensures (bid_of c.args.books.now) c.requires.outcome (ap (λ v. v + c.carried_to.result) c.value.ensures ∙ ap (λ x. slice_index c.args.outcome.now.values node + x) carried)
    (subst (λ n. IsPassedDown c.args.tree.now.nodes (bid_of c.args.books.now) n c.loop-node.shares) (sym here) c.loop-node.invariant.shares) in
    record {
      shares = subst (λ n. IsPassedDown c.args.tree.now.nodes (bid_of c.args.books.now) (n + 1) c.pass_on.new.shares) here passed;
      room = omega (arith, ap length c.set_price.ensures.prices, length-set c.loop-node.prices node (c.value.result + c.carried_to.result), c.loop-node.invariant.room);
      prices = price_set c.args.tree.now.nodes (bid_of c.args.books.now) c.facts.ensures.tree c.loop-node.prices here (omega arith) (omega arith)
          c.set_price.ensures.prices refl carried (c.value.ensures ∙ c.requires.outcome.values node (omega arith)) c.loop-node.invariant.prices;
      count = c.set_price.ensures.count;
      minima = c.set_price.ensures.minima;
    }
