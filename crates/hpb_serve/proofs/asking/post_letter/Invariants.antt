use Rattle.std.proofs.Common.{◌≡◌, true}
use Rattle.rtrb.specs.Ring.{SameProducer}
use Rattle.hpb_serve.proofs.asking.post_letter.Given as goal

abbrev pub invariant-loop : goal.invariant-loop
invariant-loop g l =
    (goal.iterator-loop g).can_next l.iterator' × (goal.iterator-loop g).is_finite l.iterator' × (l.client.seat ≡ l.fn.client.seat) × (l.client.viewer ≡ l.fn.client.viewer)
    × (l.client.mark ≡ l.fn.client.mark) × (l.client.taken ≡ l.fn.client.taken) × (l.client.waiting.items ≡ l.fn.client.waiting.items) × (l.fn.client.is_halted ≡ true → l.client.is_halted ≡ true) × SameProducer l.fn.client.letters l.client.letters
