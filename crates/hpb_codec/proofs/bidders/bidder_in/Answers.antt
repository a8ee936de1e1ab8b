use Rattle.std.proofs.Common.{◌∙◌, arith}
use Rattle.hpb_codec.proofs.Entries.{bidder_read, same_bidder}
use Rattle.hpb_codec.proofs.bidders.bidder_in.Goals as goal

pub returns-in_default : goal.returns-in_default
returns-in_default c bidder has e =
    let read = bidder_read bidder c.args.entry.now c.front_bytes.result.0.now c.front_bytes.result.1.now c.front_u32-units.result.1.now c.front_u32-units.result.0 has e c.front_bytes.ensures.whole c.front_bytes.ensures.size c.front_u32-units.ensures.whole (omega arith) in
    c.in_default.ensures bidder.name has.name read.0

pub returns : goal.returns
returns c bidder has e =
    let read = bidder_read bidder c.args.entry.now c.front_bytes.result.0.now c.front_bytes.result.1.now c.front_u32-units.result.1.now c.front_u32-units.result.0 has e c.front_bytes.ensures.whole c.front_bytes.ensures.size c.front_u32-units.ensures.whole (omega arith) in
    same_bidder (c.in_ok-from_str.ensures.ok ∙ c.in-Some.ensures bidder.name has.name read.0) (omega (arith, read.1))
