-- Viewers of one board.
-- Source: this project's own.
use Rattle.std.specs.Prelude.{◌≡◌}
use Rattle.hpb_board.specs.Publication.{Viewing}

-- **One board.** A viewer is of another's board if both follow the same publisher from the same opened auction on.
abbrev pub SameBoard : Viewing → Viewing → Type 0
SameBoard v w = (w.book ≡ v.book) × (w.opened ≡ v.opened)
