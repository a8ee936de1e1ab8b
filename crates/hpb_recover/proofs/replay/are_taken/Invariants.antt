use Rattle.std.proofs.Common.{◌≡◌, drop}
use Rattle.hpb_rules.specs.Values.{value_after}
use Rattle.hpb_rules.specs.AcceptedRuns.{AllAccepted}
use Rattle.hpb_recover.proofs.replay.are_taken.Given as goal

-- the commands that are left decide
abbrev pub invariant-loop-command : goal.invariant-loop-command
invariant-loop-command l =
    let rest = drop l.command-index l.commands in
    record {
      same : value_after l.auction rest ≡ value_after l.fn.auction l.commands;
      so_far : AllAccepted l.auction rest → AllAccepted l.fn.auction l.commands;
      on : AllAccepted l.fn.auction l.commands → AllAccepted l.auction rest;
    }
