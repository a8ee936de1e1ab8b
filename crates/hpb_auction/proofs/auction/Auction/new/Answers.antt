use Rattle.std.proofs.Common.{◌≡◌, length, sym, ap, ◌∙◌, arith, subst}
use Rattle.hpb_rules.specs.Tree.{TreeRules}
use Rattle.hpb_rules.specs.Values.{first_value}
use Rattle.hpb_rules.specs.ProperValues.{IsProper}
use Rattle.hpb_rules.proofs.SavedValues.{first_proper}
use Rattle.hpb_rules.proofs.ValueParts.{value_with}
use Rattle.hpb_rules.proofs.TreeLaws.{accepted_is_definition}
use Rattle.hpb_bids.specs.View.{no_bid}
use Rattle.hpb_winners.specs.View.{IsOutcome}
use Rattle.hpb_prices.specs.View.{HasPrices, HasMinima}
use Rattle.hpb_units.specs.Holdings.{AreHoldings}
use Rattle.hpb_auction.specs.Inside.{AreTablesOf}
use Rattle.hpb_auction.proofs.FirstTables.{empty_kept, rows_count, first_parts, first_seen}
use Rattle.hpb_auction.proofs.Kept.{tables_by}
use Rattle.hpb_auction.proofs.auction.Auction.new.Goals as goal
use Rattle.hpb_auction.proofs.auction.Auction.new.Goals.{In_ok-bidders}

tables : (c : In_ok-bidders) → AreTablesOf c.in_ok-definition.definition c.in_ok-books.books c.in_ok-outcome.outcome c.in_ok-prices.prices
tables c = tables_by c.in_ok-books.ensures.high
    (subst (λ (t : TreeRules). IsOutcome t.nodes no_bid c.in_ok-outcome.outcome) c.tree-2.ensures c.in_ok-outcome.ensures)
    (subst (λ (t : TreeRules). HasPrices t.nodes no_bid c.in_ok-prices.prices) c.tree-3.ensures c.in_ok-prices.ensures.prices)
    (subst (λ (t : TreeRules). HasMinima t no_bid c.in_ok-prices.prices) c.tree-3.ensures c.in_ok-prices.ensures.minima)

first : (c : In_ok-bidders) → value_with c.in_ok-definition.definition 0 (first_parts c.in_ok-definition.definition c.in_ok-books.books c.in_ok-books.ensures.empty c.in_ok-bidders.bidders.items) ≡ first_value c.in_ok-definition.definition
first c = first_seen c.in_ok-definition.definition c.in_ok-books.books c.in_ok-books.ensures.empty c.in_ok-bidders.bidders.items c.in_ok-bidders.ensures.rows

pub invariant_of-result : goal.invariant_of-result
invariant_of-result c =
    let rules = c.in_ok-definition.definition in
    let count : length c.in_ok-bidders.bidders.items ≡ length rules.bidders = ap length c.in_ok-bidders.ensures.rows ∙ rows_count rules in
    record {
      accepted = c.is_accepted_draft.ensures;
      proper = subst IsProper (sym (first c)) (first_proper rules c.is_accepted_draft.ensures);
      tree = (accepted_is_definition rules c.is_accepted_draft.ensures).tree;
      rows = count;
      most_rows = omega (arith, count, c.in_ok-bidders.ensures.most);
      bids = empty_kept rules c.in_ok-books.books c.in_ok-books.ensures.empty;
      tables = tables c;
      holdings = subst (λ (t : TreeRules). AreHoldings t.nodes c.in_ok-books.books c.in_ok-outcome.outcome c.in_ok-holdings.holdings) c.tree-4.ensures c.in_ok-holdings.ensures;
      winners = c.winners-winners.ensures;
    }

pub returns-clause-value : goal.returns-clause-value
returns-clause-value c =
    first c ∙ ap first_value c.in_ok-definition.ensures

pub returns-clause-empty : goal.returns-clause-empty
returns-clause-empty c = (
  tt,
  first c,
)
