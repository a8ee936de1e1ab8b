use Rattle.hpb_wire.proofs.Eight.{moved_up}
use Rattle.hpb_wire.proofs.number.keep_first.Goals as goal

pub returns : goal.returns
returns c bytes eight is = moved_up bytes c.args.word c.args.count eight is c.requires.most
