use Rattle.core.proofs.dec2flt.Eight.{eight_is}
use Rattle.hpb_wire.proofs.number.value_of_eight.Goals as goal

pub returns-clause-value : goal.returns-clause-value
returns-clause-value c digits eight is = eight_is digits c.args.word eight is
