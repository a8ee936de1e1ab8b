use Rattle.std.proofs.Common.{◌≡◌, ℕ, ◌<◌, ◌+◌, ◌^◌, Some, slice_get}
use Rattle.hpb_board.specs.declared.row.Row.{Row}
use Rattle.hpb_board.specs.Publication.{tally}
use Rattle.hpb_board.proofs.row.have_room.Given as goal

abbrev pub invariant-loop-seat : goal.invariant-loop-seat
invariant-loop-seat l = (s : ℕ) (row : Row) → s < l.seat → slice_get l.rows s ≡ Some row → row.count + tally s l.letters < 2 ^ 64
