use Rattle.hpb_serve.specs.InFlight.{HasLooked, StillWaits}
use Rattle.hpb_serve.proofs.asking.take_answer.Given as goal

-- it has looked, and none is there yet
abbrev pub invariant-loop : goal.invariant-loop
invariant-loop g l =
    (goal.iterator-loop g).can_next l.iterator' × (goal.iterator-loop g).is_finite l.iterator' × HasLooked l.fn.client l.client × StillWaits l.fn.client l.client
