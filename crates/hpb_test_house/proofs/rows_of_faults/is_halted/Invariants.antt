use Rattle.hpb_house.specs.Clients.{SameClient}
use Rattle.hpb_test_house.proofs.rows_of_faults.is_halted.Given as goal

abbrev pub invariant-loop : goal.invariant-loop
invariant-loop g l = SameClient l.fn.client l.client
