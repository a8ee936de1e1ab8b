-- In each value the winners are the best choice, and its prices prove it.
use Rattle.std.proofs.Common.{refl}
use Rattle.hpb_rules.specs.Tree.{IsTree}
use Rattle.hpb_rules.specs.Choices.{IsWinners, winners}
use Rattle.hpb_rules.specs.Prices.{price}
use Rattle.hpb_rules.specs.AuctionValue.{AuctionValue}
use Rattle.hpb_rules.specs.Values.{high_bid_in}
use Rattle.hpb_rules.specs.ValueLaws.{IsBestChoice, ValueIsBestChoice}
use Rattle.hpb_rules.proofs.AcceptedDrafts.{accepted_is_definition}
use Rattle.hpb_rules.proofs.Winners.{winners_are_one}
use Rattle.hpb_rules.proofs.NodeCertificate.{certified}

pub best_choice : (value : AuctionValue) → IsTree value.rules.nodes → IsBestChoice value
best_choice value tree =
    let won : IsWinners value.rules.nodes (high_bid_in value) (winners value.rules.nodes (high_bid_in value)) = (winners_are_one value.rules.nodes (high_bid_in value) tree).0 in
    record {
      winners = won;
      greatest = won.greatest;
      certificate = certified value.rules.nodes (high_bid_in value) tree (price value.rules.nodes (high_bid_in value)) (λ node h. refl);
    }

pub value_is_best_choice : ValueIsBestChoice
value_is_best_choice value accepted = best_choice value (accepted_is_definition value.rules accepted).tree
