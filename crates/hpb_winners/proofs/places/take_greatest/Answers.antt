use Rattle.std.proofs.Common.{◌≡◌, ◌+◌, ◌*◌, ◌%◌, ◌^◌, ap, ◌∙◌, arith}
use Rattle.hpb_winners.proofs.GreatestBit.{high_bit, high_top}
use Rattle.hpb_winners.proofs.places.take_greatest.Goals as goal

pub returns-then-high-gt0 : goal.returns-then-high-gt0
returns-then-high-gt0 c =
    let place = c.greatest_place-place.result in
    let top = high_top c.args.mask.now place c.greatest_place-place.ensures in
    let bit : c.from.result * 2 ^ 64 % 2 ^ 128 ≡ 2 ^ (place + 64) = ap (λ k. k * 2 ^ 64 % 2 ^ 128) c.from.ensures ∙ high_bit place c.greatest_place-place.ensures.within in
    (omega (arith, top.0, bit), omega (arith, top.1, bit))
