-- The order of refusals, as one list of tests for each kind of command.
-- Source: this project's own.
use Rattle.std.specs.Prelude.{◌≡◌, ℕ, suc, ◌%◌, Bool, false, not, ◌||◌, ◌&&◌, ◌==◌, nat_lt, nat_le, List, [], ◌∷◌, reverse, Option, Some, None, length, if◌then◌else◌}
use Rattle.hpb_rules.specs.declared.command.Command.{Command}
use Rattle.hpb_rules.specs.declared.command.Command.TheVariants.{Bid, Close, Stage, Waive}
use Rattle.hpb_rules.specs.declared.reply.Reply.{Reply}
use Rattle.hpb_rules.specs.declared.reply.Reply.TheVariants.{Ok, Refused}
use Rattle.hpb_rules.specs.declared.limits.TheConstants.{MOST_AMOUNT, MOST_COMMANDS}
use Rattle.hpb_rules.specs.declared.refusal.Refusal.TheVariants as refusals
use Rattle.hpb_rules.specs.Tree.{Rules}
use Rattle.hpb_rules.specs.Prices.{minimum}
use Rattle.hpb_rules.specs.History
use Rattle.hpb_rules.specs.Answer.{answer}

-- **The order of refusals.** All tests in one list, in the order in which they are checked, each with the reply if it
-- applies. A repeat is answered among them. The last ones are those of the command's kind.
--
-- The reply of the first test that applies, or another reply if none does.
abbrev pub first_reply : List (Bool × Reply) → Reply → Reply
first_reply [] otherwise = otherwise
first_reply (test ∷ tests) otherwise = if test.0 then test.1 else first_reply tests otherwise

-- Whether a command is a sender's last one.
abbrev pub is_last_again : Command → Option (Command × ℕ) → Bool
is_last_again command None = false
is_last_again command (Some last) = History.same_command command last.0

-- The number of a sender's last command, or 0 if there is none.
abbrev pub last_number : Option (Command × ℕ) → ℕ
last_number None = 0
last_number (Some last) = last.1

module _ (rules : Rules) where
  -- Whether a command names a bidder that the definition doesn't have.
  abbrev pub lacks_bidder : Command → Bool
  lacks_bidder (Bid from ticket node amount) = nat_le (length rules.bidders) from
  lacks_bidder (Close ticket) = false
  lacks_bidder (Stage ticket) = false
  lacks_bidder (Waive from ticket) = nat_le (length rules.bidders) from

  -- Whether a command names a node that the definition doesn't have.
  abbrev pub lacks_node : Command → Bool
  lacks_node (Bid from ticket node amount) = nat_le (length rules.nodes) node
  lacks_node (Close ticket) = false
  lacks_node (Stage ticket) = false
  lacks_node (Waive from ticket) = false

  -- The tests of its own kind that a command must meet, in their order.
  abbrev pub own_tests : List Command → Command → List (Bool × Reply)
  own_tests past (Bid from ticket node amount) =
      (not (amount % rules.step == 0), Refused refusals.Step)
      ∷ (nat_lt amount (minimum rules (History.high_bid past) node), Refused refusals.Low)
      ∷ (nat_lt MOST_AMOUNT amount, Refused refusals.High)
      ∷ (History.bid_on past from node, Refused refusals.Again)
      ∷ (nat_lt (History.eligibility rules past from) (History.activity rules (Bid from ticket node amount ∷ past) from), Refused refusals.Eligibility) ∷ []
  own_tests past (Close ticket) = []
  own_tests past (Stage ticket) = (nat_le (length rules.stages) (History.stage past), Refused refusals.Stage) ∷ []
  own_tests past (Waive from ticket) =
      (History.waivers_left rules past from == 0, Refused refusals.Waiver)
      ∷ (History.has_waived past from, Refused refusals.Waived) ∷ []

  -- The order of refusals: all tests, in the order in which they are checked. A repeat is answered among them.
  abbrev pub order : List Command → Command → List (Bool × Reply)
  order past command =
      let ticket = History.ticket_of command in
      let last = History.last_ticket past (History.sender_of command) in
      let last_command = History.last_of past (History.sender_of command) in
      (lacks_bidder command, Refused refusals.Bidder)
      ∷ (lacks_node command, Refused refusals.Node)
      ∷ ((ticket == 0) || nat_lt ticket last, Refused refusals.Old)
      ∷ ((ticket == last) && is_last_again command last_command, Ok (last_number last_command))
      ∷ (ticket == last, Refused refusals.Ticket)
      ∷ (nat_lt (suc last) ticket, Refused refusals.Gap)
      ∷ (nat_le MOST_COMMANDS (length past), Refused refusals.Limit)
      ∷ (History.is_over past, Refused refusals.Closed) ∷ own_tests past command

-- A command is answered by the first test that applies in the order of refusals. If none does, it is accepted under the
-- next number.
abbrev pub AnswerIsFirst : Type 0
AnswerIsFirst = (rules : Rules) (history : List Command) (command : Command)
    → answer rules history command ≡ first_reply (order rules (reverse history) command) (Ok (suc (length history)))
