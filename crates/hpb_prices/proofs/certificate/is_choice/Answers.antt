use Rattle.std.proofs.Common.{◌≡◌, refl, false, ◌∙◌, arith}
use Rattle.std.proofs.lemmas.Bool.{both_ways}
use Rattle.hpb_prices.proofs.Chosen.{chosen_other, chosen_all, no_bid_no_choice, below_no_choice}
use Rattle.hpb_prices.proofs.certificate.is_choice.Goals.{then-highs-place-eq0-via-then-highs-place-eq0, then-highs-place-eq0-via-else-highs-place-eq0+then-is_below_winner}
use Rattle.hpb_prices.proofs.certificate.is_choice.Goals as goal

pub loop-place-preserved-then-winners-place-eq0 : goal.loop-place-preserved-then-winners-place-eq0
loop-place-preserved-then-winners-place-eq0 c = chosen_other c.args.tree.now.nodes c.args.winners c.args.highs.now c.loop-place.place c.if-winners-place-eq0.true c.loop-place.invariant

pub returns-then-highs-place-eq0 : goal.returns-then-highs-place-eq0
returns-then-highs-place-eq0 c =
    let here : c.node-item.result ≡ c.loop-place.place = c.node-item.is ∙ c.nodes-node-items.ensures.each c.loop-place.place c.node-item.result (omega arith) in (
      λ e. absurd (both_ways false refl e),
      λ choice. absurd (elim c.then-highs-place-eq0.branch [
        | then-highs-place-eq0-via-then-highs-place-eq0 w ↦ no_bid_no_choice c.args.tree.now.nodes c.args.winners c.args.highs.now c.facts.ensures.tree c.loop-place.place _ (omega arith) refl c.if-winners-place-eq0.false w.if-highs-place-eq0.true choice
        | then-highs-place-eq0-via-else-highs-place-eq0+then-is_below_winner w ↦ below_no_choice c.args.tree.now.nodes c.args.winners c.args.highs.now c.facts.ensures.tree c.loop-place.place c.node-item.result (omega arith) here c.if-winners-place-eq0.false (w.is_below_winner.ensures.0 w.if-is_below_winner.true) choice
      ]),
    )

pub returns : goal.returns
returns c = (λ e. chosen_all c.args.tree.now.nodes c.args.winners c.args.highs.now c.facts.ensures.tree c.loop-place.place (omega arith) c.loop-place.invariant, λ choice. refl)
