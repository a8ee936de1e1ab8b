use Rattle.std.proofs.Common.{arith}
use Rattle.hpb_auction.proofs.Proper.{bidder_last}
use Rattle.hpb_auction.proofs.auction.Auction.last_bid_of.Goals as goal

pub returns-clause-found : goal.returns-clause-found
returns-clause-found c =
    bidder_last c.self.inside c.self.invariant c.args.self.now c.self.view_is c.place-row.result c.args.bidder c.index.result.now c.as_ref.result c.index.ensures c.place-row.ensures.value
    (omega (arith, c.if-row-len.false, c.len.ensures, c.place-row.ensures.value)) c.as_ref.ensures.value
