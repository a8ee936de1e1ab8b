use Rattle.hpb_prices.proofs.Climbing.{climbed_start, climbed_more}
use Rattle.hpb_prices.proofs.certificate.is_below_winner.Goals as goal

pub loop-above-init : goal.loop-above-init
loop-above-init c = climbed_start c.args.tree.now.nodes c.args.winners c.args.node c.parent-above.ensures.value c.parent-above.ensures.before

pub loop-above-preserved : goal.loop-above-preserved
loop-above-preserved c = climbed_more c.args.tree.now.nodes c.args.winners c.args.node c.loop-above.invariant c.in-Some.is c.place.ensures.value c.if-winners-place-eq1.false c.parent-above-in-Some.ensures.value c.parent-above-in-Some.ensures.before
