use Rattle.std.proofs.Common.{◌≡◌, take}
use Rattle.hpb_board.proofs.writing.copied.Given as goal

abbrev pub invariant-loop-letter : goal.invariant-loop-letter
invariant-loop-letter l = l.copy ≡ take l.letter-index l.letters
