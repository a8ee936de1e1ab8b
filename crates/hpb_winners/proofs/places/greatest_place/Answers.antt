use Rattle.std.proofs.Common.{arith}
use Rattle.hpb_winners.proofs.GreatestBit.{greatest_bit}
use Rattle.hpb_winners.proofs.places.greatest_place.Goals as goal

pub returns : goal.returns
returns c = greatest_bit c.args.word c.requires (omega arith)
