use Rattle.std.proofs.Common.{◌≡◌, [], All}
use Rattle.std.specs.Vec.Iter.{into_iter_items}
use Rattle.hpb_serve.proofs.threads.finish_clients.Given as goal

abbrev pub invariant-loop-client : goal.invariant-loop-client
invariant-loop-client g l = All (λ client. client.waiting.items ≡ []) (into_iter_items l.client-iterator)
