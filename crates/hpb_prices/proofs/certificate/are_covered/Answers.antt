use Rattle.std.proofs.Common.{◌≡◌, refl, false, below_more, ◌∙◌, arith}
use Rattle.std.proofs.lemmas.Bool.{both_ways}
use Rattle.hpb_prices.proofs.LicenceSums.{sum_node}
use Rattle.hpb_prices.proofs.certificate.are_covered.Goals as goal

pub returns-then-from-sum_where : goal.returns-then-from-sum_where
returns-then-from-sum_where c =
    let here : c.node-item.result ≡ c.loop-place.place = c.node-item.is ∙ c.nodes-node-items.ensures.each c.loop-place.place c.node-item.result (omega arith) in (
      λ e. absurd (both_ways false refl e),
      λ covers. absurd (omega (arith, covers c.loop-place.place (omega arith), sum_node c.args.tree.now.nodes c.args.prices.now here c.from-in-loop-place.ensures c.licences-licences.ensures c.requires.prices)),
    )

pub loop-place-preserved : goal.loop-place-preserved
loop-place-preserved c =
    let here : c.node-item.result ≡ c.loop-place.place = c.node-item.is ∙ c.nodes-node-items.ensures.each c.loop-place.place c.node-item.result (omega arith) in
    below_more _ _ c.loop-place.invariant (omega (arith, sum_node c.args.tree.now.nodes c.args.prices.now here c.from-in-loop-place.ensures c.licences-licences.ensures c.requires.prices))
