use Rattle.std.proofs.Common.{◌≡◌, [], take}
use Rattle.hpb_rules.specs.Letters.{new_commands}
use Rattle.hpb_rules.specs.Judging.{judged_in}
use Rattle.hpb_auction.proofs.accepting.accepts_any.Given as goal

abbrev pub invariant-loop-letter : goal.invariant-loop-letter
invariant-loop-letter l = new_commands (judged_in l.auction (take l.letter-index l.letters)) ≡ []
