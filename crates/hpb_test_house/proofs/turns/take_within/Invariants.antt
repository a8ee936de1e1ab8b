use Rattle.hpb_house.specs.Clients.{SameClient}
use Rattle.hpb_test_house.proofs.turns.take_within.Given as goal

abbrev pub invariant-loop : goal.invariant-loop
invariant-loop g l = SameClient l.fn.client l.client
