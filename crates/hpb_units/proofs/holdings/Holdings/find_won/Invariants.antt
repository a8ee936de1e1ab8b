use Rattle.hpb_units.proofs.Won.{AreWon}
use Rattle.hpb_units.proofs.holdings.Holdings.find_won.Given as goal

-- each turn takes a winner out
abbrev pub decreases-loop-place : goal.decreases-loop-place
decreases-loop-place l = l.winners

abbrev pub invariant-loop-place : goal.invariant-loop-place
invariant-loop-place l = AreWon l.tree.nodes l.books l.outcome l.self l.winners
