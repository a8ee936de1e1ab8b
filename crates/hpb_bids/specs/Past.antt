-- How books follow from a list of accepted commands, the newest first.
use Rattle.std.specs.Prelude.{◌≡◌, ℕ, ◌<◌, List}
use Rattle.hpb_rules.specs.declared.command.Command.{Command}
use Rattle.hpb_rules.specs.declared.limits.TheConstants.{MOST_BIDDERS, MOST_NODES}
use Rattle.hpb_rules.specs.History.{high, incoming, bid_on}
use Rattle.hpb_bids.specs.View.{BooksView, offer_at, has_bid}

-- The books are those of the commands: the high and the incoming bid of each node, and the nodes on which each bidder
-- bid.
pub record AreBooksOf (books : BooksView) (past : List Command) : Type 0 where
  pub standing : (n : ℕ) → n < MOST_NODES → offer_at books.standing n ≡ high past n
  pub incoming : (n : ℕ) → n < MOST_NODES → offer_at books.incoming n ≡ incoming past n
  pub bids : (b n : ℕ) → b < MOST_BIDDERS → n < MOST_NODES → has_bid books b n ≡ bid_on past b n
