use Rattle.std.proofs.Common.{◌≡◌, take}
use Rattle.hpb_rules.specs.Values.{first_value, value_after, replies_in}
use Rattle.hpb_auction.proofs.running.run_commands.Given as goal

abbrev pub invariant-loop-command : goal.invariant-loop-command
invariant-loop-command l =
    (l.auction ≡ value_after (first_value l.definition) (take l.command-index l.commands))
    × (l.replies.items ≡ replies_in (first_value l.definition) (take l.command-index l.commands))
