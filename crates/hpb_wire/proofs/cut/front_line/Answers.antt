use Rattle.std.proofs.Common.{◌≡◌, ◌*◌, ◌%◌, ◌^◌, ◌<◌, length, take, ap, ◌∙◌, arith}
use Rattle.std.proofs.lemmas.List.{length-take-le, take-take}
use Rattle.std.proofs.lemmas.Nat.{one_shl}
use Rattle.hpb_rules.specs.Lines.{space}
use Rattle.hpb_wire.specs.ByteMaps.{map_of}
use Rattle.hpb_wire.proofs.Places.{map_before}
use Rattle.hpb_wire.proofs.cut.front_line.Goals as goal

pub returns-clause-mapped : goal.returns-clause-mapped
returns-clause-mapped c =
    let bytes = c.args.bytes.now in
    let size = c.in_ok-size.size in
    let less : size < 32 = c.in_ok-size.ensures.short in
    let front = take 32 bytes in
    let long : length front ≡ 32 = length-take-le 32 bytes (omega arith) in
    let power : 1 * 2 ^ size % 18446744073709551616 ≡ 2 ^ size = one_shl size 64 (omega (arith, less)) in
    record {
      short = λ _. omega (arith, length-take-le size bytes (omega (arith, less)), less);
      spaces =
          ap (λ m. c.byte_map.result % m) power
          ∙ ap (λ m. m % 2 ^ size) c.byte_map.ensures
          ∙ map_before space size front (omega (arith, long, less))
          ∙ ap (map_of space) (take-take size 32 bytes (omega (arith, less)));
    }
