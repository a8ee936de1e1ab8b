use Rattle.std.proofs.Common.{◌≡◌}
use Rattle.rtrb.specs.Ring.{SameProducer}
use Rattle.hpb_serve.proofs.session.finish_client.Given as goal

abbrev pub invariant-loop : goal.invariant-loop
invariant-loop g l =
    (goal.iterator-loop g).can_next l.iterator' × (goal.iterator-loop g).is_finite l.iterator' × (l.client.seat ≡ l.fn.client.seat) × (l.client.viewer ≡ l.fn.client.viewer)
    × (l.client.taken ≡ l.fn.client.taken) × (l.client.accepted ≡ l.fn.client.accepted) × (l.client.waiting ≡ l.fn.client.waiting) × (l.client.is_halted ≡ l.fn.client.is_halted) × SameProducer l.fn.client.letters l.client.letters
