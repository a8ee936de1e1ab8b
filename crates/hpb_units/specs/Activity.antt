-- The activity of a bidder.
use Rattle.std.specs.Prelude.{ℕ, Bool, ◌&&◌, ◌||◌, ◌==◌, List}
use Rattle.std.specs.List.{list_any}
use Rattle.std.specs.Int.{bit_at}
use Rattle.hpb_rules.specs.Tree.{Node, places, sum_over, at_or_under, units_at}
use Rattle.hpb_rules.specs.Choices.{is_in}
use Rattle.hpb_rules.specs.History.{is_of}
use Rattle.hpb_tree.specs.Licences.{licence_number}
use Rattle.hpb_bids.specs.View.{BooksView, offer_at, has_bid}
use Rattle.hpb_winners.specs.View.{OutcomeView}

-- Whether a bidder won a node at the last close.
abbrev pub is_won_by : BooksView → OutcomeView → ℕ → ℕ → Bool
is_won_by books outcome bidder node = is_in outcome.wins node && is_of bidder (offer_at books.standing node)

-- Whether a bidder bid on a node in the open round, or won it at the last close.
abbrev pub is_active_on : BooksView → OutcomeView → ℕ → ℕ → Bool
is_active_on books outcome bidder node = has_bid books bidder node || (is_in outcome.wins node && is_of bidder (offer_at books.standing node))

-- Whether a licence is at or under a node on which the bidder is active.
abbrev pub held : List Node → BooksView → OutcomeView → ℕ → ℕ → Bool
held nodes books outcome bidder licence = list_any (λ node. at_or_under nodes node licence && is_active_on books outcome bidder node) (places nodes)

-- The units of all licences held, each licence counted once.
abbrev pub activity_of : List Node → BooksView → OutcomeView → ℕ → ℕ
activity_of nodes books outcome bidder = sum_over nodes (held nodes books outcome bidder) (units_at nodes)

-- The activity with one node more, each licence counted once.
abbrev pub activity_with : List Node → BooksView → OutcomeView → ℕ → ℕ → ℕ
activity_with nodes books outcome bidder node = sum_over nodes (λ licence. held nodes books outcome bidder licence || at_or_under nodes node licence) (units_at nodes)

-- Whether the mask has the bit of the licence at a place.
abbrev pub has_licence : List Node → ℕ → ℕ → Bool
has_licence nodes mask licence = bit_at mask (licence_number nodes licence) == 1
