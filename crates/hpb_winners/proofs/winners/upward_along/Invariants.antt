use Rattle.hpb_bids.specs.View.{bid_of}
use Rattle.hpb_winners.proofs.Walking.{Walk}
use Rattle.hpb_winners.proofs.winners.upward_along.Given as goal

-- each turn takes a place out and adds at most a smaller one
abbrev pub decreases-loop-place : goal.decreases-loop-place
decreases-loop-place l = l.pending

abbrev pub invariant-loop-place : goal.invariant-loop-place
invariant-loop-place l = Walk l.tree.nodes (bid_of l.books) l.fn.changed l.pending l.outcome
