use Rattle.std.proofs.Common.{◌≡◌, None, take}
use Rattle.std.specs.List.{AllByRecursion}
use Rattle.hpb_rules.specs.Answer.{unknown}
use Rattle.hpb_codec.proofs.batch.are_known.Given as goal

abbrev pub invariant-loop-command : goal.invariant-loop-command
invariant-loop-command l = AllByRecursion (λ command. unknown l.definition command ≡ None) (take l.command-index l.commands)
