use Rattle.std.proofs.Common.{◌≡◌, drop, length}
use Rattle.hpb_serve.specs.InFlight.{HasLooked}
use Rattle.hpb_serve.proofs.InFlight.{AreTaken}
use Rattle.hpb_serve.proofs.asking.take_answers.Given as goal

-- those so far are answered, and the others wait
abbrev pub invariant-loop : goal.invariant-loop
invariant-loop g l = record {
  looked : HasLooked l.fn.client l.client;
  waiting : l.client.waiting.items ≡ drop l.counter l.fn.client.waiting.items;
  counted : length l.replies ≡ l.counter;
  taken : AreTaken l.fn.client l.client l.counter l.replies;
}
