use Rattle.std.proofs.Common.{◌≡◌, ◌∙◌, ◌<◌, Some, ap, arith, length, sym, slice_get, slice_index_or, List}
use Rattle.hpb_board.specs.declared.row.Row.{Row}
use Rattle.hpb_board.proofs.Later.{get_dropped}
use Rattle.hpb_board.proofs.Recent.{get_is}
use Rattle.hpb_board.proofs.row.catch_up_all.Goals as goal

pub catch_up-requires : goal.catch_up-requires
catch_up-requires c =
    let i = c.loop-seat.invariant in
    let rows = c.loop-seat.rows in
    let old = c.args.rows.now in
    let later = c.args.later.now in
    let seat = c.loop-seat.seat in
    let r = slice_index_or rows seat c.index-rows-seat.result in
    let r' = c.index-later-seat.result in
    let inside : seat < length rows = omega (arith, c.loop-seat.auto.rows, c.loop-seat-test.true) in
    let at : slice_get old seat ≡ Some r
    = sym (get_dropped old seat) ∙ (ap (λ (l : List Row). slice_get l 0) (sym i.2) ∙ (get_dropped rows seat ∙ get_is rows seat c.index-rows-seat.result inside)) in
    let at' : slice_get later seat ≡ Some r' = get_is later seat r' (omega (arith, i.0, inside)) ∙ ap Some (sym c.index-later-seat.is) in
    c.requires.later seat r r' at at'
