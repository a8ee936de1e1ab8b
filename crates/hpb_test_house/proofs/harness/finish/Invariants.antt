use Rattle.std.proofs.Common.{◌≡◌, ◌⊎◌, [], true}
use Rattle.hpb_house.specs.Clients.{SameClient}
use Rattle.hpb_test_house.proofs.harness.finish.Given as goal

abbrev pub invariant-loop : goal.invariant-loop
invariant-loop g l =
    (goal.iterator-loop g).can_next l.iterator' × (goal.iterator-loop g).is_finite l.iterator' × SameClient l.fn.client l.client
    × ((l.client.waiting.items ≡ []) ⊎ (l.client.is_halted ≡ true))
