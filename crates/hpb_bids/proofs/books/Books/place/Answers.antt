use Rattle.std.proofs.Common.{◌<◌, length, ◌∙◌, arith}
use Rattle.std.proofs.lemmas.Grind.{get_or_default_zero}
use Rattle.hpb_bids.proofs.Tables.{kept_view, placed_view}
use Rattle.hpb_bids.proofs.History.{placed_are_books, placed_offers, placed_bids}
use Rattle.hpb_bids.proofs.books.Books.place.Goals as goal

pub returns-clause-value : goal.returns-clause-value
returns-clause-value c =
    let nodes = c.self.inside.nodes.items in
    let masks = c.self.inside.bids.items in
    let has_row : c.place-index.result < length nodes = omega (arith, c.self.invariant.nodes) in
    let has_mask : c.place.result < length masks = omega (arith, c.self.invariant.bids) in
    placed_view nodes masks c.args.self.now c.place-index.result c.place.result c.args.node c.args.bidder c.args.amount c.index_mut-2.result.now c.index_mut.result.now c.receive.new.self
    c.self.view_is c.place-index.ensures.value c.place.ensures.value has_row (omega arith) c.index_mut.ensures.value c.receive.ensures
    (c.index_mut-2.ensures.value ∙ get_or_default_zero masks c.place.result c.index_mut-2.result.now has_mask)

pub returns-clause-history : goal.returns-clause-history
returns-clause-history c =
    let sized = kept_view c.self.inside c.args.self.now c.self.view_is c.self.invariant in
    placed_are_books c.args.bidder c.args.node c.args.amount sized (omega (arith, c.place.ensures.value)) (omega (arith, c.place-index.ensures.value)) (returns-clause-value c)

pub returns-clause-incoming : goal.returns-clause-incoming
returns-clause-incoming c =
    let sized = kept_view c.self.inside c.args.self.now c.self.view_is c.self.invariant in
    placed_offers c.args.bidder c.args.node c.args.amount sized (omega (arith, c.place-index.ensures.value)) (returns-clause-value c)

pub returns-clause-bids : goal.returns-clause-bids
returns-clause-bids c =
    let sized = kept_view c.self.inside c.args.self.now c.self.view_is c.self.invariant in
    placed_bids c.args.bidder c.args.node c.args.amount sized (omega (arith, c.place.ensures.value)) (returns-clause-value c)
