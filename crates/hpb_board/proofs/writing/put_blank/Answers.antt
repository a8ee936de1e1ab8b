use Rattle.std.proofs.Common.{◌∙◌, ap, drop}
use Rattle.hpb_board.specs.declared.board.Board.{Board}
use Rattle.hpb_board.proofs.Keeping.{blank_put}
use Rattle.hpb_board.proofs.writing.put_blank.Goals as goal

pub returns-clause-pending : goal.returns-clause-pending
returns-clause-pending c =
    let w = c.args.writer.now in
    let trail = c.again.ensures ∙ ap (λ (b : Board). b.trail) c.published-board.ensures in
    rw c.put.ensures.desk (blank_put c.put.result w.desk.shown.value (drop w.behind w.log.items) _ _ c.requires trail c.new.ensures c.put.ensures.pending)
