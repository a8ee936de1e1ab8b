use Rattle.std.proofs.Common.{◌≡◌, take}
use Rattle.hpb_codec.proofs.batch.commands_of.Given as goal

abbrev pub invariant-loop-command : goal.invariant-loop-command
invariant-loop-command l = l.list ≡ take l.command-index l.commands
