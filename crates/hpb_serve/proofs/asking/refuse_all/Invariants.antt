use Rattle.std.proofs.Common.{◌≡◌, ◌++◌}
use Rattle.hpb_serve.specs.InFlight.{refused_by}
use Rattle.hpb_serve.specs.declared.stop.Stop.TheVariants.{Halted}
use Rattle.hpb_serve.proofs.asking.refuse_all.Given as goal

abbrev pub invariant-loop : goal.invariant-loop
invariant-loop l = l.replies ≡ l.fn.replies ++ refused_by Halted l.counter
