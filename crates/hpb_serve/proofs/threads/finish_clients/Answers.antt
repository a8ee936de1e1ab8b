use Rattle.std.proofs.Common.{◌≡◌, []}
use Rattle.hpb_serve.proofs.Turns.{rest_of}
use Rattle.hpb_serve.proofs.threads.finish_clients.Goals as goal

pub loop-client-preserved : goal.loop-client-preserved
loop-client-preserved g c = rest_of (λ client. client.waiting.items ≡ []) c.loop-client.client-iterator c.next.new.self c.in-Some.client c.loop-client.invariant c.in-Some.ensures.steps
