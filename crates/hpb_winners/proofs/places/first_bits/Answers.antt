use Rattle.hpb_winners.proofs.GreatestBit.{bits_same, bits_within}
use Rattle.hpb_winners.proofs.places.first_bits.Goals as goal
use Rattle.std.proofs.Common.{arith}

pub returns-clause-bits : goal.returns-clause-bits
returns-clause-bits c = bits_same c.args.mask c.args.count (omega (arith, c.requires))

pub returns-clause-within : goal.returns-clause-within
returns-clause-within c = bits_within c.args.mask c.args.count (omega (arith, c.requires))
