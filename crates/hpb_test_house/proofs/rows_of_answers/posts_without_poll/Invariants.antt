use Rattle.hpb_house.specs.Clients.{SameClient}
use Rattle.hpb_test_house.proofs.rows_of_answers.posts_without_poll.Given as goal

abbrev pub invariant-loop-posted : goal.invariant-loop-posted
invariant-loop-posted l = SameClient l.fn.client l.client
