use Rattle.std.proofs.Common.{eqb, take, drop, map, subst, sym, ◌∙◌, ◌<◌, ◌^◌, arith, w8}
use Rattle.std.proofs.lemmas.Simd.{bitmask_splat, length-chunk, mask_l-lt}
use Rattle.std.specs.Simd.Lanes.{mask_l}
use Rattle.std.proofs.lemmas.List.{length-map}
use Rattle.hpb_wire.proofs.byte_map.map_at.Goals as goal

pub returns-clause-value : goal.returns-clause-value
returns-clause-value c =
    let part = take 16 (drop c.args.at c.args.bytes.now) in
    bitmask_splat w8 eqb part 16 c.args.byte (length-chunk c.args.at 16 c.args.bytes.now c.requires) (omega arith)

pub returns-clause-bound : goal.returns-clause-bound
returns-clause-bound c =
    let part = take 16 (drop c.args.at c.args.bytes.now) in
    let long = length-chunk c.args.at 16 c.args.bytes.now c.requires in
    let ms = map (λ b. eqb b c.args.byte) part in
    let below = subst (λ n. mask_l ms < 2 ^ n) (length-map part _ ∙ long) (mask_l-lt ms) in
    subst (λ m. m < 65536) (sym (bitmask_splat w8 eqb part 16 c.args.byte long (omega arith))) below
