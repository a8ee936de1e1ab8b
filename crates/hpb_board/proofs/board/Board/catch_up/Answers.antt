use Rattle.std.proofs.Common.{◌∙◌, ap, length, subst, sym, List}
use Rattle.hpb_board.specs.Rows.{GoOn}
use Rattle.hpb_board.specs.declared.row.Row.{Row}
use Rattle.hpb_board.proofs.Keeping.{rules_alike, rows_alike, rows_later, auction_later}
use Rattle.hpb_board.proofs.board.Board.catch_up.Goals as goal

pub catch_up_auction-requires-clause-rules : goal.catch_up_auction-requires-clause-rules
catch_up_auction-requires-clause-rules c = rules_alike c.args.self.now c.args.later.now c.requires.one

pub catch_up_auction-requires-clause-same : goal.catch_up_auction-requires-clause-same
catch_up_auction-requires-clause-same c = auction_later c.args.self.now c.args.later.now c.requires.one c.requires.later

pub catch_up_all-requires-clause-long : goal.catch_up_all-requires-clause-long
catch_up_all-requires-clause-long c =
    ap length c.as_mut_slice.ensures.value ∙ (rows_alike c.args.self.now c.args.later.now c.requires.one ∙ sym (ap length c.as_slice.ensures.value))

pub catch_up_all-requires-clause-later : goal.catch_up_all-requires-clause-later
catch_up_all-requires-clause-later c =
    let there = rows_later c.args.self.now c.args.later.now c.requires.one c.requires.later in
    let this = subst (λ (l : List Row). GoOn l c.args.later.now.rows.items) (sym c.as_mut_slice.ensures.value) there in
    subst (GoOn c.as_mut_slice.result.now) (sym c.as_slice.ensures.value) this
