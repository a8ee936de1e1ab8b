-- The books of the code as definitions see them.
use Rattle.std.specs.Prelude.{◌≡◌, ℕ, ◌≤◌, Bool, nat_lt, List, map, length, Some, None, IfSome, All}
use Rattle.hpb_rules.specs.declared.limits.TheConstants.{MOST_BIDDERS, MOST_NODES, MOST_AMOUNT}
use Rattle.hpb_rules.specs.declared.command.Offer.{Offer}
use Rattle.hpb_rules.specs.History.{amount_of, greater}
use Rattle.hpb_bids.specs.View.{BooksView}
use Rattle.hpb_bids.specs.declared.books.NodeBids.{NodeBids}
use Rattle.hpb_bids.specs.declared.books.Books.TheInside.{Inside}

-- The books that the code's tables stand for.
abbrev pub tables_view : List NodeBids → List ℕ → BooksView
tables_view nodes bids = record {
  standing = map (λ (n : NodeBids). n.standing) nodes;
  incoming = map (λ (n : NodeBids). n.incoming) nodes;
  bids = bids;
}

-- The books that the code stands for.
abbrev pub books_view : Inside → BooksView
books_view b = tables_view b.nodes.items b.bids.items

-- The bids on a node are at most the greatest amount.
pub record IsSmall (n : NodeBids) : Type 0 where
  pub standing : IfSome n.standing (λ o. o.amount ≤ MOST_AMOUNT)
  pub incoming : IfSome n.incoming (λ o. o.amount ≤ MOST_AMOUNT)

-- Each table has its size, and no amount is above the greatest.
pub record IsKept (b : Inside) : Type 0 where
  pub nodes : length b.nodes.items ≡ MOST_NODES
  pub bids : length b.bids.items ≡ MOST_BIDDERS
  pub amounts : All IsSmall b.nodes.items

-- The bids on a node after another bid in the open round.
abbrev pub received : NodeBids → Offer → NodeBids
received n o = record { standing = n.standing; incoming = greater n.incoming (Some o) }

-- The bids on a node after a close.
abbrev pub closed : NodeBids → NodeBids
closed n = record { standing = greater n.standing n.incoming; incoming = None }

-- Whether the best bid of the open round is more than the high bid.
abbrev pub is_raised : NodeBids → Bool
is_raised n = nat_lt (amount_of n.standing) (amount_of n.incoming)
