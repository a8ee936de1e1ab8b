use Rattle.std.proofs.Common.{rules, ◌≡◌, ◌+◌, ◌<◌, length, sym, ap, ◌∙◌, arith, subst}
use Rattle.hpb_rules.specs.declared.command.Command.{Command}
use Rattle.hpb_rules.specs.Drafts.{draft_refusal}
use Rattle.hpb_rules.specs.ProperValues.{IsProper}
use Rattle.hpb_auction.proofs.Proper.{taken_proper}
use Rattle.hpb_rules.specs.AuctionValue.{AuctionValue}
use Rattle.hpb_rules.specs.Values.{changed}
use Rattle.hpb_auction.specs.Acceptable.{IsKnown}
use Rattle.hpb_bids.specs.View.{BooksView, offer_at, bid_of}
use Rattle.hpb_auction.specs.declared.sender.BidderRow.{BidderRow}
use Rattle.hpb_auction.specs.Inside.{value_inside, row_at}
use Rattle.hpb_auction.proofs.Tables.{row_found}
use Rattle.hpb_rules.specs.Tree.{TreeRules}
use Rattle.hpb_units.specs.Holdings.{AreSmall, AreSummed, HoldsMore}
use Rattle.hpb_auction.proofs.Holdings.{small, holdings_placed}
use Rattle.hpb_auction.proofs.Kept.{tables_stay}
use Rattle.hpb_auction.proofs.BidTables.{IsPlaced, placed_kept, bid_seen, row_set, row_other, with_last}
use Rattle.hpb_auction.proofs.auction.Auction.accept_bid.Goals as goal

known : (c : goal.After-self-2-1) → (c.args.bidder < length c.self.inside.definition.bidders) × (c.args.node < length c.self.inside.definition.nodes)
known c = subst (λ (command : Command). IsKnown (value_inside c.self.inside) command) c.requires.command
    (subst (λ (value : AuctionValue). IsKnown value c.args.accepted.command) (sym c.self.view_is) c.requires.known)

placed : (c : goal.After-self-2-1) → IsPlaced c.self.inside.books c.place.new.self c.args.bidder c.args.node c.args.amount
placed c = record {
  standing = λ m. ap (λ (books : BooksView). offer_at books.standing m) c.place.ensures.value;
  incoming = c.place.ensures.incoming;
  bids = c.place.ensures.bids;
}

in_rows : (c : goal.After-self-2-1) → c.place-2.result < length c.self.inside.bidders.items
in_rows c = omega (arith, (known c).0, c.self.invariant.rows, c.place-2.ensures.value)

counted : (c : goal.After-self-2-1) → c.args.accepted.number ≡ c.self.inside.count + 1
counted c = c.requires.count ∙ ap (λ (value : AuctionValue). value.count + 1) (sym c.self.view_is)

pub returns : goal.returns
returns c =
    let a = c.self.inside in
    let rows = c.self.inside.bidders.items in
    let same : c.place-2.result ≡ c.args.bidder = c.place-2.ensures.value in
    let inside : c.args.bidder < length rows = omega (arith, in_rows c, same) in
    let read : c.index_mut.result.now ≡ row_at rows c.args.bidder = row_found rows c.place-2.result c.args.bidder c.index_mut.result.now c.index_mut.ensures.value same inside in
    bid_seen a c.place.new.self _ c.args.bidder c.args.node c.args.amount c.args.accepted
    (record {
      placed = placed c;
      own = row_set rows c.place-2.result c.args.bidder (with_last c.index_mut.result.now c.args.accepted) same inside ∙ ap (λ (row : BidderRow). with_last row c.args.accepted) read;
      others = λ k other. row_other rows c.place-2.result k (with_last c.index_mut.result.now c.args.accepted) (λ e. other (e ∙ same));
      in_bidders = (known c).0;
      in_nodes = (known c).1;
    })
    c.requires.command
    (counted c)
    ∙ ap (λ (value : AuctionValue). changed value c.args.accepted.command) c.self.view_is

pub invariant_of-self : goal.invariant_of-self
invariant_of-self c =
    let a = c.self.inside in
    let kept = c.self.invariant in
    record {
      accepted = kept.accepted;
      proper = subst IsProper (sym (returns c)) (taken_proper c.args.self.now c.args.accepted.command c.args.accepted.number (ap (λ (value : AuctionValue). draft_refusal value.rules) (sym c.self.view_is) ∙ kept.accepted) (subst IsProper c.self.view_is kept.proper) c.requires.new c.requires.count);
      tree = kept.tree;
      rows = search rules;
      most_rows = search rules;
      bids = placed_kept a.definition a.books c.place.new.self c.args.bidder c.args.node c.args.amount kept.bids (placed c) (known c).0 (known c).1;
      tables = tables_stay a.definition a.books c.place.new.self a.outcome a.prices (ap bid_of c.place.ensures.value) kept.tables;
      holdings = holdings_placed a.definition.nodes a.books c.place.new.self a.outcome c.args.bidder c.args.node c.args.amount (known c).1 (placed c) a.holdings c.add.new.self kept.holdings
          (subst (λ (t : TreeRules). HoldsMore t.nodes a.holdings c.add.new.self c.args.bidder c.args.node) c.tree-tree.ensures c.add.ensures.more)
          (subst (λ (t : TreeRules). AreSummed t.nodes c.add.new.self) c.tree-tree.ensures c.add.ensures.summed);
      winners = kept.winners;
    }

pub add-requires-clause-node : goal.add-requires-clause-node
add-requires-clause-node c = subst (λ (t : TreeRules). c.args.node < length t.nodes) (sym c.tree-tree.ensures)
    (subst (λ (command : Command). IsKnown (value_inside c.self.inside) command) c.requires.command
    (subst (λ (value : AuctionValue). IsKnown value c.args.accepted.command) (sym c.self.view_is) c.requires.known)).1

pub add-requires-clause-small : goal.add-requires-clause-small
add-requires-clause-small c = subst (λ (t : TreeRules). AreSmall t.nodes) (sym c.tree-tree.ensures) (small c.self.inside.definition c.self.invariant.accepted)

pub add-requires-clause-summed : goal.add-requires-clause-summed
add-requires-clause-summed c = subst (λ (t : TreeRules). AreSummed t.nodes c.self.inside.holdings) (sym c.tree-tree.ensures) c.self.invariant.holdings.summed
