use Rattle.hpb_house.specs.Clients.{SameClient}
use Rattle.hpb_test_house.proofs.rows_of_counts.post_from.Given as goal

abbrev pub invariant-loop-place : goal.invariant-loop-place
invariant-loop-place l = SameClient l.fn.client l.client
