use Rattle.std.proofs.Common.{◌≡◌, ◌≤◌, take}
use Rattle.hpb_board.specs.Publication.{tally}
use Rattle.hpb_board.proofs.row.count_of.Given as goal

abbrev pub invariant-loop-letter : goal.invariant-loop-letter
invariant-loop-letter l = (l.count ≡ tally l.seat (take l.letter-index l.letters)) × (l.count ≤ l.letter-index)
