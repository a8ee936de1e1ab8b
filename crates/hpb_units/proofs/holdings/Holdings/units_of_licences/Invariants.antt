use Rattle.hpb_units.proofs.Summing.{IsSummedTo}
use Rattle.hpb_units.proofs.holdings.Holdings.units_of_licences.Given as goal

-- each turn takes a licence out
abbrev pub decreases-loop-rest : goal.decreases-loop-rest
decreases-loop-rest l = l.rest

abbrev pub invariant-loop-rest : goal.invariant-loop-rest
invariant-loop-rest l = IsSummedTo l.tree.nodes l.licences l.rest l.total
