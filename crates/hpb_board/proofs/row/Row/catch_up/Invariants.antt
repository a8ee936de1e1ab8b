use Rattle.std.proofs.Common.{◌≡◌, ◌+◌, ◌<◌}
use Rattle.hpb_board.specs.Rows.{GoesOn}
use Rattle.hpb_board.proofs.row.Row.catch_up.Given as goal

abbrev pub invariant-loop-number : goal.invariant-loop-number
invariant-loop-number l = GoesOn l.self l.later × (l.self.count ≡ l.number) × (l.later.count < l.number + 17)
