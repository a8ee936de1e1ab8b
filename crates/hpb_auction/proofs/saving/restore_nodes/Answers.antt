use Rattle.std.proofs.Common.{◌+◌, ◌<◌, ℕ, List, Option, set, take, length, length-set, refl, ap, ◌∙◌, arith}
use Rattle.hpb_rules.specs.declared.command.Offer.{Offer}
use Rattle.hpb_rules.specs.declared.saved.SavedNode.{SavedNode}
use Rattle.hpb_bids.specs.View.{BooksView}
use Rattle.hpb_auction.proofs.Restored.{set_more}
use Rattle.hpb_auction.proofs.saving.restore_nodes.Goals as goal

pub loop-place-preserved : goal.loop-place-preserved
loop-place-preserved c =
    let entries = c.args.nodes.now in
    let place = c.loop-place.place in
    let old = c.loop-place.books in
    let held = c.loop-place.invariant in
    let read = c.index-nodes-place.result in
    let is = c.set_node.ensures in
    let inside : place < length old.standing = omega (arith, held.many_standing) in
    let inside' : place < length old.incoming = omega (arith, held.many_incoming) in
    let within : place < length entries = omega arith in
    let standing = ap (λ (books : BooksView). books.standing) is ∙ ap (λ (k : ℕ). set old.standing k read.high) c.new.ensures in
    let incoming = ap (λ (books : BooksView). books.incoming) is ∙ ap (λ (k : ℕ). set old.incoming k read.incoming) c.new.ensures in
    record {
      standing = ap (λ (offers : List (Option Offer)). take (place + 1) offers) standing
          ∙ set_more (λ (entry : SavedNode). entry.high) old.standing entries place read read.high inside within held.standing c.index-nodes-place.is refl;
      incoming = ap (λ (offers : List (Option Offer)). take (place + 1) offers) incoming
          ∙ set_more (λ (entry : SavedNode). entry.incoming) old.incoming entries place read read.incoming inside' within held.incoming c.index-nodes-place.is refl;
      many_standing = ap length standing ∙ length-set old.standing place read.high ∙ held.many_standing;
      many_incoming = ap length incoming ∙ length-set old.incoming place read.incoming ∙ held.many_incoming;
      bids = ap (λ (books : BooksView). books.bids) is ∙ held.bids;
    }
