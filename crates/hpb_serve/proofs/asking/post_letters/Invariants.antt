use Rattle.std.proofs.Common.{◌≡◌, take, true}
use Rattle.rtrb.specs.Ring.{SameProducer}
use Rattle.hpb_serve.specs.InFlight.{waiting_for}
use Rattle.hpb_serve.proofs.asking.post_letters.Given as goal

-- those so far are posted, none of them by a halted client
abbrev pub invariant-loop-place : goal.invariant-loop-place
invariant-loop-place g l = record {
  seat : l.client.seat ≡ l.fn.client.seat;
  viewer : l.client.viewer ≡ l.fn.client.viewer;
  mark : l.client.mark ≡ l.fn.client.mark;
  ring : SameProducer l.fn.client.letters l.client.letters;
  posted : l.client.waiting.items ≡ waiting_for l.fn.client.seat l.fn.client.mark (take l.place l.commands);
  silent : l.fn.client.is_halted ≡ true → (l.place ≡ 0) × (l.client ≡ l.fn.client);
}
