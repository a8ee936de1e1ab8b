-- What books are: bids by node, and nodes by bidder.
use Rattle.std.specs.Prelude.{length, ◌≤◌, ◌≡◌, ◌≢◌, ℕ, ◌^◌, Bool, true, false, ◌==◌, List, [], ◌∷◌, map, Option, Some, None, IfSome, slice_index, slice_index_or, slice_set, bit_or}
use Rattle.std.specs.Int.{bit_at}
use Rattle.hpb_rules.specs.declared.command.Offer.{Offer}
use Rattle.hpb_rules.specs.declared.limits.TheConstants.{MOST_BIDDERS, MOST_NODES, MOST_AMOUNT}
use Rattle.hpb_rules.specs.History.{amount_of, greater}
use Rattle.hpb_rules.specs.Saved.{has_bit}

-- For each node the high bid of closed rounds and the greatest bid of the open round. For each bidder the nodes on
-- which it bid in the open round: bit n of its number is for node n.
pub record BooksView : Type 0 where
  pub standing : List (Option Offer)
  pub incoming : List (Option Offer)
  pub bids : List ℕ

-- The bid on a node, if there is one.
abbrev pub offer_at : List (Option Offer) → ℕ → Option Offer
offer_at offers n = slice_index_or offers n None

-- The high bid of a node, or 0 if it has none.
abbrev pub bid_of : BooksView → ℕ → ℕ
bid_of books n = amount_of (offer_at books.standing n)

-- The high bids of a tree without a bid: 0 for each node.
abbrev pub no_bid : ℕ → ℕ
no_bid node = 0

-- Whether the bidder bid on the node in the open round.
abbrev pub has_bid : BooksView → ℕ → ℕ → Bool
has_bid books b n = bit_at (slice_index books.bids b) n == 1

-- Each table has its size, and no bid is above the greatest amount.
pub record IsBooks (books : BooksView) : Type 0 where
  pub standing : length books.standing ≡ MOST_NODES
  pub incoming : length books.incoming ≡ MOST_NODES
  pub bids : length books.bids ≡ MOST_BIDDERS
  pub standing_amounts : (n : ℕ) → IfSome (offer_at books.standing n) (λ offer. offer.amount ≤ MOST_AMOUNT)
  pub incoming_amounts : (n : ℕ) → IfSome (offer_at books.incoming n) (λ offer. offer.amount ≤ MOST_AMOUNT)
  pub amounts : (n : ℕ) → bid_of books n ≤ MOST_AMOUNT

-- The books after a bid in the open round.
abbrev pub placed : BooksView → ℕ → ℕ → ℕ → BooksView
placed books b n a = record {
  standing = books.standing;
  incoming = slice_set books.incoming n (greater (offer_at books.incoming n) (Some (record { amount = a; bidder = b })));
  bids = slice_set books.bids b (bit_or (slice_index books.bids b) (2 ^ n));
}

-- The greater of two bids on each node.
abbrev pub merged : List (Option Offer) → List (Option Offer) → List (Option Offer)
merged [] newer = []
merged (o ∷ older) [] = o ∷ older
merged (o ∷ older) (n ∷ newer) = greater o n ∷ merged older newer

-- The books after a close.
abbrev pub folded : BooksView → BooksView
folded books = record {
  standing = merged books.standing books.incoming;
  incoming = map (λ _. None) books.incoming;
  bids = map (λ _. 0) books.bids;
}

-- The mask has bit n if and only if the high bid of node n changed.
pub record AreChanged (old new : BooksView) (mask : ℕ) : Type 0 where
  pub changed : (n : ℕ) → has_bit mask n ≡ true → offer_at new.standing n ≢ offer_at old.standing n
  pub same : (n : ℕ) → has_bit mask n ≡ false → offer_at new.standing n ≡ offer_at old.standing n

-- Nobody bid in the open round.
abbrev pub IsQuiet : BooksView → Type 0
IsQuiet books = (b : ℕ) → slice_index books.bids b ≡ 0

-- Nobody has bid.
pub record IsEmpty (books : BooksView) : Type 0 where
  pub standing : (n : ℕ) → offer_at books.standing n ≡ None
  pub incoming : (n : ℕ) → offer_at books.incoming n ≡ None
  pub bids : IsQuiet books
