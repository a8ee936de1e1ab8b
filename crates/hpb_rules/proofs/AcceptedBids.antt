-- Each accepted bid meets the rules.
use Rattle.std.proofs.Common.{◌≡◌, ℕ, zero, suc, ◌<◌, ◌≤◌, Bool, List, [], ◌∷◌, Some, None, length, arith, subst}
use Rattle.std.specs.Prelude.{slice_get}
use Rattle.std.proofs.lemmas.Bool.{eqb-true, ltb-false, not-false}
use Rattle.hpb_rules.specs.declared.command.Command.{Command}
use Rattle.hpb_rules.specs.declared.command.Command.TheVariants.{Bid}
use Rattle.hpb_rules.specs.Tree.{Rules, opening}
use Rattle.hpb_rules.specs.Prices.{price, minimum}
use Rattle.hpb_rules.specs.Drafts.{draft_refusal}
use Rattle.hpb_rules.specs.History
use Rattle.hpb_rules.specs.Answer.{unknown, bid_fault, IsPast}
use Rattle.hpb_rules.specs.HistoryLaws.{IsNew, MeetsRules, BidsMeetRules}
use Rattle.hpb_rules.proofs.Money
use Rattle.hpb_rules.proofs.NewCommands.{next_test, known_names, accepted_new}
use Rattle.hpb_rules.proofs.AcceptedDrafts.{accepted_is_definition}
use Rattle.hpb_rules.proofs.Openings.{opening_positive}

module _ (rules : Rules) (accepted : draft_refusal rules ≡ None) where
  -- a bid without a fault meets the rules, whatever the high bids are
  pub faultless_meets : (bid : ℕ → ℕ) (from ticket node amount : ℕ) (again : Bool) (eligibility activity : ℕ)
      → unknown rules (Bid from ticket node amount) ≡ None → bid_fault rules.step amount (minimum rules bid node) again eligibility activity ≡ None → MeetsRules rules from node amount
  faultless_meets bid from ticket node amount again eligibility activity known faultless =
      let names : (from < length rules.bidders) × (node < length rules.nodes) = known_names rules from ticket node amount known in
      let step = next_test _ _ _ faultless in
      let low = next_test _ _ _ step.1 in
      let high = next_test _ _ _ low.1 in
      let enough : minimum rules bid node ≤ amount = ltb-false _ _ low.0 in
      let meets : opening rules.nodes node ≤ minimum rules bid node = (Money.minimum_is_one rules.step rules.percent (opening rules.nodes node) (price rules.nodes bid node) (accepted_is_definition rules accepted).step).0.enough.meets_opening in
      record {
        known_bidder = names.0;
        known_node = names.1;
        multiple = eqb-true _ _ (not-false _ step.0);
        meets_opening = omega arith;
        positive = omega (arith, opening_positive rules accepted node names.1);
        possible = ltb-false _ _ high.0;
      }

  -- a new bid meets the rules
  new_meets : (past : List Command) (from ticket node amount : ℕ) → IsNew rules past (Bid from ticket node amount) → MeetsRules rules from node amount
  new_meets past from ticket node amount new =
      faultless_meets (History.high_bid past) from ticket node amount (History.bid_on past from node) (History.eligibility rules past from) (History.activity rules (Bid from ticket node amount ∷ past) from) new.known new.faultless

  pub bid_meets : (past : List Command) (place from ticket node amount : ℕ) → IsPast rules past → slice_get past place ≡ Some (Bid from ticket node amount) → MeetsRules rules from node amount
  bid_meets [] place from ticket node amount is e = absurd (cc)
  bid_meets (command ∷ past) zero from ticket node amount is e =
      let same : command ≡ Bid from ticket node amount = cc in
      new_meets past from ticket node amount (subst (IsNew rules past) same (accepted_new rules past command is.0))
  bid_meets (command ∷ past) (suc place) from ticket node amount is e = bid_meets past place from ticket node amount is.1 e

pub bids_meet_rules : BidsMeetRules
bids_meet_rules rules past place from ticket node amount accepted is e = bid_meets rules accepted past place from ticket node amount is e
