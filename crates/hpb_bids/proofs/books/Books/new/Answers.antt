use Rattle.std.proofs.Common.{refl, ap, None}
use Rattle.hpb_rules.specs.History.{amount_of}
use Rattle.hpb_rules.proofs.Lists.{get_or-replicate_same}
use Rattle.hpb_bids.specs.declared.books.NodeBids.{NodeBids}
use Rattle.hpb_bids.proofs.History.{empty_are_books}
use Rattle.hpb_bids.proofs.Tables.{none_at}
use Rattle.hpb_bids.proofs.books.Books.new.Goals as goal

no_bids : NodeBids
no_bids = record { standing = None; incoming = None }

pub returns-clause-empty : goal.returns-clause-empty
unfolding no_bids
returns-clause-empty c = record {
  standing = λ n. rw (c.in_ok-vec.ensures.items_if_clones_equal (λ y h. h)) (none_at (λ (m : NodeBids). m.standing) no_bids refl 127 n);
  incoming = λ n. rw (c.in_ok-vec.ensures.items_if_clones_equal (λ y h. h)) (none_at (λ (m : NodeBids). m.incoming) no_bids refl 127 n);
  bids = λ n. rw (c.in_ok-vec-2.ensures.items_if_clones_equal (λ y h. h)) (get_or-replicate_same 64 n 0);
}

pub returns-clause-high : goal.returns-clause-high
returns-clause-high c = λ i. λ node. ap amount_of ((returns-clause-empty c).standing node) i

pub returns-clause-history : goal.returns-clause-history
returns-clause-history c = empty_are_books (returns-clause-empty c)
