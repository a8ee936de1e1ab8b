use Rattle.std.proofs.Common.{◌≡◌}
use Rattle.hpb_run.specs.Standing.{refused}
use Rattle.hpb_run.proofs.replies.all_refused.Given as goal

abbrev pub invariant-loop : goal.invariant-loop
invariant-loop l = l.replies ≡ refused l.counter l.fn.refusal
