use Rattle.std.proofs.Common.{◌≡◌, ◌++◌, [], All, map, true}
use Rattle.std.specs.Vec.Iter.{into_iter_items}
use Rattle.hpb_serve.proofs.threads.start_sessions.Given as goal

abbrev pub invariant-loop-client : goal.invariant-loop-client
invariant-loop-client g l =
    All (λ client. client.waiting.items ≡ []) (into_iter_items l.client-iterator)
    × (l.is_whole ≡ true → map (λ thread. thread.promise.client.value) l.threads.items ++ into_iter_items l.client-iterator ≡ l.fn.clients.items)
