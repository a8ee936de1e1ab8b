-- Properties of the bids that the tables keep.
use Rattle.std.proofs.Common.{◌≡◌, ℕ, Bool, true, false, Option, Vec, Global, length, refl, sym, ◌∙◌, subst, arith}
use Rattle.std.specs.Prelude.{if◌then◌else◌, IfSome}
use Rattle.hpb_rules.specs.declared.command.Offer.{Offer}
use Rattle.hpb_rules.specs.History.{greater}
use Rattle.hpb_rules.specs.Tree.{Rules, tree_of}
use Rattle.hpb_bids.specs.View.{BooksView, bid_of}
use Rattle.hpb_winners.specs.View.{OutcomeView, IsOutcome}
use Rattle.hpb_prices.specs.View.{PricesView, HasPrices, HasMinima}
use Rattle.hpb_rules.specs.ProperValues.{IsProper}
use Rattle.hpb_rules.specs.declared.saved.Accepted.{Accepted}
use Rattle.hpb_auction.specs.declared.sender.BidderRow.{BidderRow}
use Rattle.hpb_auction.specs.declared.auction.Auction.TheInside.{Inside}
use Rattle.hpb_auction.specs.Inside.{value_inside, IsOfferOf, AreTablesOf, IsKept}

-- the greater of two bids on a node is one of them
pub greater_kept : (rules : Rules) (n : ℕ) (older newer : Option Offer) → IfSome older (IsOfferOf rules n) → IfSome newer (IsOfferOf rules n) → IfSome (greater older newer) (IsOfferOf rules n)
greater_kept rules n older newer h k = pick _
  where
    pick : (b : Bool) → IfSome (if b then newer else older) (IsOfferOf rules n)
    pick true = k
    pick false = h

-- tables of the high bids of some books are those of the books
pub tables_by : {rules : Rules} {books : BooksView} {outcome : OutcomeView} {priced : PricesView} {bid : ℕ → ℕ} → bid_of books ≡ bid
    → IsOutcome rules.nodes bid outcome → HasPrices rules.nodes bid priced → HasMinima (tree_of rules) bid priced → AreTablesOf rules books outcome priced
tables_by {rules = rules} {outcome = outcome} {priced = priced} high reached prices minima = record {
  reached = subst (λ (bid : ℕ → ℕ). IsOutcome rules.nodes bid outcome) (sym high) reached;
  prices = subst (λ (bid : ℕ → ℕ). HasPrices rules.nodes bid priced) (sym high) prices;
  minima = subst (λ (bid : ℕ → ℕ). HasMinima (tree_of rules) bid priced) (sym high) minima;
}

-- tables stay right if the books change and their high bids don't
pub tables_stay : (rules : Rules) (books books' : BooksView) (outcome : OutcomeView) (priced : PricesView) → bid_of books' ≡ bid_of books → AreTablesOf rules books outcome priced → AreTablesOf rules books' outcome priced
tables_stay rules books books' outcome priced high kept = tables_by high kept.reached kept.prices kept.minima

-- an auction keeps its invariant if its rows, the auctioneer's last command, the count or the stage change and its
-- value stays proper
module _ (a : Inside) (kept : IsKept a) where
  pub rows_kept : {bidders : Vec BidderRow Global} {auctioneer : Option Accepted} {count stage : ℕ} → length bidders.items ≡ length a.bidders.items
      → IsProper (value_inside (record a { bidders = bidders; auctioneer = auctioneer; count = count; stage = stage })) → IsKept (record a { bidders = bidders; auctioneer = auctioneer; count = count; stage = stage })
  rows_kept many proper = record {
    accepted = kept.accepted;
    proper = proper;
    tree = kept.tree;
    rows = many ∙ kept.rows;
    most_rows = omega (arith, many, kept.most_rows);
    bids = kept.bids;
    tables = kept.tables;
    holdings = kept.holdings;
    winners = kept.winners;
  }

  pub told_kept : {auctioneer : Option Accepted} {count stage : ℕ} → IsProper (value_inside (record a { auctioneer = auctioneer; count = count; stage = stage })) → IsKept (record a { auctioneer = auctioneer; count = count; stage = stage })
  told_kept = rows_kept refl
