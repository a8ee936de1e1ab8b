use Rattle.hpb_wire.proofs.Eight.{others}
use Rattle.hpb_wire.proofs.number.has_others.Goals as goal

pub returns : goal.returns
returns c bytes eight is = others bytes c.args.word eight is
