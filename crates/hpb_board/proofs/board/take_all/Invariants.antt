use Rattle.std.proofs.Common.{◌≡◌, take}
use Rattle.hpb_board.specs.Rows.{shown_by}
use Rattle.hpb_board.specs.declared.board.Shown.{Shown}
use Rattle.hpb_board.proofs.board.take_all.Given as goal

abbrev pub invariant-loop-letter : goal.invariant-loop-letter
invariant-loop-letter l =
    let now : Shown = record { auction = l.auction; rows = l.rows } in
    let old : Shown = record { auction = l.fn.auction; rows = l.fn.rows } in
    now ≡ shown_by old (take l.letter-index l.letters)
