use Rattle.std.proofs.Common.{◌∙◌, ap}
use Rattle.hpb_rules.specs.AuctionValue.{AuctionValue}
use Rattle.hpb_house.proofs.Histories.{rules_shown}
use Rattle.hpb_house.proofs.comparing.shows.Goals as goal

pub same_auction-requires : goal.same_auction-requires
same_auction-requires c = ap (λ (a : AuctionValue). a.rules) c.auction.ensures ∙ (rules_shown c.args.report.now.viewer ∙ c.requires)
