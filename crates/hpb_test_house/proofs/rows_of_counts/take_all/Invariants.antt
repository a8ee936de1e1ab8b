use Rattle.hpb_house.specs.Clients.{SameClient}
use Rattle.hpb_test_house.proofs.rows_of_counts.take_all.Given as goal

abbrev pub invariant-loop : goal.invariant-loop
invariant-loop l = SameClient l.fn.client l.client
