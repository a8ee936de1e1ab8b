use Rattle.std.proofs.Common.{◌≡◌, take, drop, ap, arith}
use Rattle.std.proofs.lemmas.List.{drop-take, take-take}
use Rattle.hpb_wire.specs.ByteMaps.{map_of}
use Rattle.hpb_wire.proofs.Places.{map_joined}
use Rattle.hpb_wire.proofs.byte_map.byte_map.Goals as goal

pub returns : goal.returns
returns c =
    let bytes = c.args.bytes.now in
    let byte = c.args.byte in
    let first : map_of byte (take 16 (take 32 bytes)) ≡ map_of byte (take 16 bytes) = ap (map_of byte) (take-take 16 32 bytes (omega arith)) in
    let rest : map_of byte (drop 16 (take 32 bytes)) ≡ map_of byte (take 16 (drop 16 bytes)) = ap (map_of byte) (drop-take 16 16 bytes) in
    omega (arith, first, rest, map_joined byte 16 (take 32 bytes), c.map_at.ensures.value, c.map_at.ensures.bound)
