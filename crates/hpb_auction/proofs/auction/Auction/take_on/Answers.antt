use Rattle.std.proofs.Common.{◌≡◌, ◌++◌, List, map, take, drop, length, sym, ap, ◌∙◌, arith, subst}
use Rattle.std.proofs.Math.Seq.{take-append_seam}
use Rattle.hpb_rules.specs.AuctionValue.{AuctionValue}
use Rattle.hpb_rules.specs.ProperValues.{IsProper}
use Rattle.hpb_rules.specs.Saved.{saved_of, restored, IsSaved}
use Rattle.hpb_rules.specs.Tree.{TreeRules}
use Rattle.hpb_rules.proofs.SavedValues.{restored_is_saved}
use Rattle.hpb_bids.specs.View.{BooksView, bid_of}
use Rattle.hpb_winners.specs.View.{IsOutcome}
use Rattle.hpb_prices.specs.View.{HasPrices, HasMinima}
use Rattle.hpb_auction.specs.declared.sender.BidderRow.{BidderRow}
use Rattle.hpb_units.specs.Holdings.{AreHoldings}
use Rattle.hpb_auction.specs.Inside.{AreBidsOf}
use Rattle.hpb_auction.specs.Saving.{books_in, row_in}
use Rattle.hpb_auction.proofs.Restored.{value_of_tables, value_restored, bids_restored, entries_small}
use Rattle.hpb_auction.proofs.auction.Auction.take_on.Goals as goal
use Rattle.hpb_auction.proofs.auction.Auction.take_on.Goals.{After-downward}

pub restore_nodes-requires-clause-small : goal.restore_nodes-requires-clause-small
restore_nodes-requires-clause-small c = entries_small c.args.self.now.rules c.args.saved.now c.requires

-- the saved auction may be restored under the definition
sound : (c : After-downward) → IsSaved c.self.inside.definition c.args.saved.now
sound c = subst (λ (value : AuctionValue). IsSaved value.rules c.args.saved.now) (sym c.self.view_is) c.requires

books : (c : After-downward) → c.restore_bids.new.books ≡ books_in c.args.saved.now
books c = c.restore_bids.ensures ∙ ap (λ (books : BooksView). record books { bids = (books_in c.args.saved.now).bids }) c.restore_nodes.ensures

abbrev kept : (c : After-downward) → List BidderRow
kept c = take c.self.inside.bidders.len (c.restore_rows.new.rows ++ drop (length c.restore_rows.new.rows) c.self.inside.bidders.items)

old_rows : (c : After-downward) → c.deref_mut.result.now ≡ c.self.inside.bidders.items
old_rows c = c.deref_mut.ensures.value

stay : (c : After-downward) → length c.restore_rows.new.rows ≡ length c.deref_mut.result.now
stay c = omega arith

-- the rows are those that were set
whole : (c : After-downward) → kept c ≡ c.restore_rows.new.rows
whole c =
    let a = c.self.inside in
    ap (λ n. take n (c.restore_rows.new.rows ++ drop (length c.restore_rows.new.rows) a.bidders.items)) (a.bidders.ok.0 ∙ sym (stay c ∙ ap length (old_rows c)))
    ∙ take-append_seam c.restore_rows.new.rows (drop (length c.restore_rows.new.rows) a.bidders.items)

rows : (c : After-downward) → kept c ≡ take (length c.self.inside.definition.bidders) (map row_in c.args.saved.now.bidders)
rows c = whole c ∙ c.restore_rows.ensures ∙ ap (λ n. take n (map row_in c.args.saved.now.bidders)) (ap length (old_rows c) ∙ c.self.invariant.rows)

many : (c : After-downward) → length (kept c) ≡ length c.self.inside.definition.bidders
many c = ap length (whole c) ∙ stay c ∙ ap length (old_rows c) ∙ c.self.invariant.rows

seen : (c : After-downward) → value_of_tables c.self.inside.definition c.args.saved.now c.restore_bids.new.books (kept c) ≡ restored c.self.inside.definition c.args.saved.now
seen c =
    ap (λ (books : BooksView). value_of_tables c.self.inside.definition c.args.saved.now books (kept c)) (books c)
    ∙ ap (value_of_tables c.self.inside.definition c.args.saved.now (books_in c.args.saved.now)) (rows c)
    ∙ value_restored c.self.inside.definition c.args.saved.now (sound c)

pub invariant_of-self : goal.invariant_of-self
invariant_of-self c =
    let a = c.self.inside in
    let old = c.self.invariant in
    record {
      accepted = old.accepted;
      proper = subst IsProper (sym (seen c)) (restored_is_saved a.definition c.args.saved.now old.accepted (sound c)).0;
      tree = old.tree;
      rows = many c;
      most_rows = omega (arith, many c, old.rows, old.most_rows);
      bids = subst (AreBidsOf a.definition) (sym (books c)) (bids_restored a.definition c.args.saved.now (sound c));
      tables = record {
        reached = subst (λ (t : TreeRules). IsOutcome t.nodes (bid_of c.restore_bids.new.books) c.upward.new.outcome) c.tree-tree.ensures c.upward.ensures.outcome;
        prices = subst (λ (t : TreeRules). HasPrices t.nodes (bid_of c.restore_bids.new.books) c.downward.new.prices) c.tree-tree.ensures c.downward.ensures.prices;
        minima = subst (λ (t : TreeRules). HasMinima t (bid_of c.restore_bids.new.books) c.downward.new.prices) c.tree-tree.ensures c.downward.ensures.minima;
      };
      holdings = subst (λ (t : TreeRules). AreHoldings t.nodes c.restore_bids.new.books c.upward.new.outcome c.find.new.self) c.tree-tree.ensures c.find.ensures;
      winners = c.winners-self-inside.ensures;
    }

pub returns-clause-value : goal.returns-clause-value
returns-clause-value c = seen c ∙ ap (λ (value : AuctionValue). restored value.rules c.args.saved.now) c.self.view_is

pub returns-clause-again : goal.returns-clause-again
returns-clause-again c = ap saved_of (seen c) ∙ (restored_is_saved c.self.inside.definition c.args.saved.now c.self.invariant.accepted (sound c)).1
