use Rattle.std.proofs.Common.{subst, sym}
use Rattle.left_right.specs.Sides.{view}
use Rattle.hpb_board.specs.Views.{Fits, opened_of}
use Rattle.hpb_board.specs.declared.board.Board.{Board}
use Rattle.hpb_board.proofs.Keeping.{sees, are_of_one}
use Rattle.hpb_board.proofs.viewer.look.Goals as goal

pub enter_as-requires : goal.enter_as-requires
enter_as-requires c = sees _ _

pub take_over-requires : goal.take_over-requires
take_over-requires c =
    let own = c.args.ends.own in
    let v = view c.args.ends.reader.place in
    let fits = subst (λ (b : Board). Fits b v) (sym c.get.ensures) c.in-Ok.ensures.1.1 in
    record { one = are_of_one own c.get.result.now own.trail.book (opened_of v) v c.requires.knows c.requires.fits fits }
