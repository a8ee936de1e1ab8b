use Rattle.std.proofs.Common.{◌≡◌, map, take}
use Rattle.hpb_run.specs.Standing.{letter_of}
use Rattle.hpb_run.proofs.replies.letters_of.Given as goal

abbrev pub invariant-loop-command : goal.invariant-loop-command
invariant-loop-command l = l.letters ≡ map letter_of (take l.command-index l.commands)
