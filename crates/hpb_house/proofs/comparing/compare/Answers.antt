use Rattle.hpb_house.proofs.Totals.{board_after}
use Rattle.hpb_house.proofs.comparing.compare.Goals as goal

pub agree-requires-clause-board : goal.agree-requires-clause-board
agree-requires-clause-board c = board_after c.args.eye.now c.view_each.ensures c.requires.board
