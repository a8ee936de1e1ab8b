use Rattle.std.proofs.Common.{◌≡◌, ◌++◌, map}
use Rattle.std.specs.Vec.Iter.{into_iter_items}
use Rattle.hpb_test_house.proofs.harness.start_clients.Given as goal

abbrev pub invariant-loop-client : goal.invariant-loop-client
invariant-loop-client g l = map (λ thread. thread.promise.client.value) l.threads.items ++ into_iter_items l.client-iterator ≡ l.fn.clients.items
