use Rattle.std.proofs.Common.{◌<◌, arith, subst, sym}
use lib.Count.{count_trailing_zeros}
use Rattle.hpb_wire.specs.Requests.{IsFrontLine}
use Rattle.hpb_wire.proofs.Places.{front_ends}
use Rattle.hpb_wire.proofs.cut.front_size.Goals as goal

pub returns-clause-front : goal.returns-clause-front
returns-clause-front c =
    let bytes = c.args.bytes.now in
    let ends = front_ends 32 bytes (omega arith) c.requires (omega (arith, c.byte_map-ends.ensures, c.if-ends-eq0.false)) in
    subst (λ m. IsFrontLine bytes (count_trailing_zeros 64 m)) (sym c.byte_map-ends.ensures) ends.0

pub returns-clause-short : goal.returns-clause-short
returns-clause-short c =
    let bytes = c.args.bytes.now in
    let ends = front_ends 32 bytes (omega arith) c.requires (omega (arith, c.byte_map-ends.ensures, c.if-ends-eq0.false)) in
    subst (λ m. count_trailing_zeros 64 m < 32) (sym c.byte_map-ends.ensures) ends.1
