use Rattle.hpb_prices.proofs.Climbing.{Climbed, steps_up}
use Rattle.hpb_prices.proofs.certificate.is_below_winner.Given as goal

abbrev pub invariant-loop-above : goal.invariant-loop-above
invariant-loop-above l = Climbed l.tree.nodes l.winners l.fn.node l.above

abbrev pub decreases-loop-above : goal.decreases-loop-above
decreases-loop-above l = steps_up l.above
