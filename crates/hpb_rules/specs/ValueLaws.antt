-- The laws of values: without a history they answer and change as the history says, and their winners are the best
-- choice.
use Rattle.std.specs.Prelude.{◌≡◌, ◌≤◌, ℕ, List, Bool, None}
use Rattle.hpb_rules.specs.declared.command.Command.{Command}
use Rattle.hpb_rules.specs.Drafts.{draft_refusal}
use Rattle.hpb_rules.specs.Choices.{IsChoice, IsWinners, revenue}
use Rattle.hpb_rules.specs.Prices.{IsCertificate}
use Rattle.hpb_rules.specs.Answer.{answer_after, after, replies_from, past_from}
use Rattle.hpb_rules.specs.AuctionValue.{AuctionValue, ShowsPast}
use Rattle.hpb_rules.specs.Values.{high_bid_in, wins_in, revenue_in, price_in, reply_in, next_value, value_after, replies_in}
use Rattle.hpb_rules.specs.Text.{text_after}
use Rattle.hpb_rules.specs.ValueText.{text_in}

-- A value answers as the past that it shows does.
abbrev pub ReplyIsAnswer : Type 0
ReplyIsAnswer = (value : AuctionValue) (past : List Command) (command : Command) → ShowsPast value past → reply_in value command ≡ answer_after value.rules past command

-- After a command a value shows the past with that command if it was newly accepted, else the same past.
abbrev pub NextIsShown : Type 0
NextIsShown = (value : AuctionValue) (past : List Command) (command : Command) → ShowsPast value past → ShowsPast (next_value value command) (after value.rules past command)

-- Over a whole run the replies are those of the past that the value shows at the start. At the end the value shows the
-- longer past.
abbrev pub RunIsShown : Type 0
RunIsShown = (value : AuctionValue) (past commands : List Command) → ShowsPast value past
    → ShowsPast (value_after value commands) (past_from value.rules past commands) × (replies_in value commands ≡ replies_from value.rules past commands)

-- The text of an input from a value on is its text after the past that the value shows.
abbrev pub TextIsShown : Type 0
TextIsShown = (value : AuctionValue) (past : List Command) (input : List ℕ) → ShowsPast value past → text_in value input ≡ text_after value.rules past input

-- **Best choice.** The nodes that win in a value are the winners by its high bids. Its revenue is theirs, and no choice
-- has more. Its prices certify them: they cover every high bid and sum to that revenue.
pub record IsBestChoice (value : AuctionValue) : Type 0 where
  pub winners : IsWinners value.rules.nodes (high_bid_in value) (wins_in value)
  pub greatest : (other : List Bool) → IsChoice value.rules.nodes (high_bid_in value) other → revenue (high_bid_in value) other ≤ revenue_in value
  pub certificate : IsCertificate value.rules.nodes (high_bid_in value) (price_in value) (wins_in value)

-- In every value under a definition that isn't refused the winners are the best choice and the prices prove it, whether
-- the value shows a history or not.
abbrev pub ValueIsBestChoice : Type 0
ValueIsBestChoice = (value : AuctionValue) → draft_refusal value.rules ≡ None → IsBestChoice value
