use Rattle.std.proofs.Common.{◌≡◌, take}
use Rattle.hpb_rules.specs.Letters.{new_commands}
use Rattle.hpb_rules.specs.Judging.{judged_in, value_by}
use Rattle.hpb_auction.proofs.letters.judge_letters.Given as goal

abbrev pub invariant-loop-letter : goal.invariant-loop-letter
invariant-loop-letter l =
    (l.auction ≡ value_by l.fn.auction (take l.letter-index l.letters))
    × (l.answers ≡ judged_in l.fn.auction (take l.letter-index l.letters))
    × (l.commands ≡ new_commands l.answers)
