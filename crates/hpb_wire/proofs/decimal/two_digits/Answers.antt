use Rattle.std.proofs.Common.{refl}
use Rattle.hpb_wire.proofs.Decimals.{pair_at}
use Rattle.hpb_wire.proofs.decimal.two_digits.Goals as goal

pub returns : goal.returns
returns c =
    let digits = pair_at c.args.number c.requires in
    rw (digits.0, digits.1) refl
