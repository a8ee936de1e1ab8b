use Rattle.std.proofs.Common.{◌+◌, ◌<◌, ℕ, List, set, get_or, take, length, length-set, ap, sym, ◌∙◌, arith}
use Rattle.hpb_rules.specs.declared.saved.SavedBidder.{SavedBidder}
use Rattle.hpb_bids.specs.View.{BooksView}
use Rattle.hpb_auction.proofs.Restored.{set_more}
use Rattle.hpb_auction.proofs.saving.restore_bids.Goals as goal

pub loop-place-preserved : goal.loop-place-preserved
loop-place-preserved c =
    let entries = c.args.bidders.now in
    let place = c.loop-place.place in
    let old = c.loop-place.books in
    let held = c.loop-place.invariant in
    let read = c.index-bidders-place.result in
    let is = c.set_bids.ensures in
    let inside : place < length old.bids = omega (arith, held.many) in
    let within : place < length entries = omega arith in
    let bids = ap (λ (books : BooksView). books.bids) is ∙ ap (λ (k : ℕ). set old.bids k (get_or entries place read).bid_on) c.new.ensures in
    record {
      standing = ap (λ (books : BooksView). books.standing) is ∙ held.standing;
      incoming = ap (λ (books : BooksView). books.incoming) is ∙ held.incoming;
      bids = ap (λ (masks : List ℕ). take (place + 1) masks) bids
          ∙ set_more (λ (entry : SavedBidder). entry.bid_on) old.bids entries place read (get_or entries place read).bid_on inside within held.bids c.index-bidders-place.is (ap (λ (entry : SavedBidder). entry.bid_on) (sym c.index-bidders-place.is));
      many = ap length bids ∙ length-set old.bids place (get_or entries place read).bid_on ∙ held.many;
    }
