-- High bids are the greatest of closed rounds, and incoming bids those of the open round.
use Rattle.hpb_rules.specs.History.{open_round, before_close}
use Rattle.hpb_rules.specs.RoundLaws.{HighIsGreatest, IncomingIsGreatest}
use Rattle.hpb_rules.proofs.Pasts.{closed_past}
use Rattle.hpb_rules.proofs.Bids.{greatest_is_first}
use Rattle.hpb_rules.proofs.AcceptedBids.{bid_meets}
use Rattle.hpb_rules.proofs.Cuts.{in_open_round}

pub high_is_greatest : HighIsGreatest
high_is_greatest rules past node accepted is = greatest_is_first (before_close past) node
    (λ place offer stands. (bid_meets rules accepted (before_close past) place offer.bidder stands.0 node offer.amount (closed_past rules past is) stands.1).positive)

pub incoming_is_greatest : IncomingIsGreatest
incoming_is_greatest rules past node accepted is = greatest_is_first (open_round past) node
    (λ place offer stands. (bid_meets rules accepted past place offer.bidder stands.0 node offer.amount is (in_open_round past place _ stands.1)).positive)
