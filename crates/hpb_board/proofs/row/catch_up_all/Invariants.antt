use Rattle.std.proofs.Common.{◌≡◌, drop, length, take}
use Rattle.hpb_board.proofs.row.catch_up_all.Given as goal

abbrev pub invariant-loop-seat : goal.invariant-loop-seat
invariant-loop-seat l = (length l.rows ≡ length l.later) × (take l.seat l.rows ≡ take l.seat l.later) × (drop l.seat l.rows ≡ drop l.seat l.fn.rows)
