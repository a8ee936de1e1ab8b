-- The worked rows of the machine: two bids of which the second is refused, turn by turn, and the commands that a stop
-- may leave.
use Rattle.std.specs.Prelude.{◌≡◌, List, [], ◌∷◌, ◌⊎◌, ◌↔◌}
use mathlib.Core.Logic.{inr}
use mathlib.Core.Path.{refl}
use Rattle.hpb_rules.specs.declared.command.Command.{Command}
use Rattle.hpb_rules.specs.declared.command.Command.TheVariants.{Bid}
use Rattle.hpb_rules.specs.declared.letter.Answer.{Answer}
use Rattle.hpb_rules.specs.declared.letter.Letter.{Letter}
use Rattle.hpb_rules.specs.declared.refusal.Refusal.TheVariants as refusals
use Rattle.hpb_rules.specs.declared.reply.Reply.TheVariants as replies
use Rattle.hpb_rules.specs.Machine.{Machine, Event, offer, commit, failed_commit, at_rest, in_flight, run, MayStand, event, stop, Reaches, here, further}
use Rattle.hpb_rules.specs.RowRules.{small}

-- A letter of the first seat.
abbrev pub from_first_seat : Command → Letter
from_first_seat command = record { seat = 0; command = command }

-- The bid of bidder 0, with ticket 1, of 100 dollars on node 2.
abbrev pub first_bid : Command
first_bid = Bid 0 1 2 100

-- A second bid of the same bidder on the same node.
abbrev pub second_bid : Command
second_bid = Bid 0 2 2 120

-- The event that two bids are offered, of which `first_bid` is newly accepted and the other one is refused.
abbrev pub two_bids : Event
two_bids = offer (from_first_seat first_bid ∷ from_first_seat second_bid ∷ [])

-- Their answers.
abbrev pub two_answers : List Answer
two_answers = record { letter = from_first_seat first_bid; at = 0; reply = replies.Ok 1 } ∷ record { letter = from_first_seat second_bid; at = 1; reply = replies.Refused refusals.Again } ∷ []

-- The machine after events from the beginning on, under the definition `small`.
abbrev pub machine_after : List Event → Machine
machine_after events = (run small (at_rest []) events).machine

nothing_leaves_before_the_fourth_turn : run small (at_rest []) (two_bids ∷ commit ∷ commit ∷ commit ∷ []) ≡ record { leaving = []; machine = in_flight [] two_answers 3 }
nothing_leaves_before_the_fourth_turn = refl

all_leave_with_the_fourth_turn : run small (at_rest []) (two_bids ∷ commit ∷ commit ∷ commit ∷ commit ∷ []) ≡ record { leaving = two_answers; machine = at_rest (first_bid ∷ []) }
all_leave_with_the_fourth_turn = refl

a_failed_third_turn_lands : run small (at_rest []) (two_bids ∷ commit ∷ commit ∷ failed_commit ∷ []) ≡ record { leaving = []; machine = in_flight [] two_answers 3 }
a_failed_third_turn_lands = refl

other_failed_turns_change_nothing : run small (at_rest []) (two_bids ∷ failed_commit ∷ commit ∷ failed_commit ∷ []) ≡ record { leaving = []; machine = in_flight [] two_answers 1 }
other_failed_turns_change_nothing = refl

a_failed_fourth_turn_changes_nothing : run small (at_rest []) (two_bids ∷ commit ∷ commit ∷ commit ∷ failed_commit ∷ []) ≡ record { leaving = []; machine = in_flight [] two_answers 3 }
a_failed_fourth_turn_changes_nothing = refl

refusals_leave_at_once : run small (at_rest []) (offer (from_first_seat second_bid ∷ []) ∷ []) ≡ record { leaving = record { letter = from_first_seat second_bid; at = 0; reply = replies.Refused refusals.Gap } ∷ []; machine = at_rest [] }
refusals_leave_at_once = refl

nothing_is_taken_in_flight : run small (at_rest []) (two_bids ∷ two_bids ∷ []) ≡ record { leaving = []; machine = in_flight [] two_answers 0 }
nothing_is_taken_in_flight = refl

a_landed_flight_may_outlast_a_stop : Reaches small (at_rest []) [] (at_rest (first_bid ∷ []))
a_landed_flight_may_outlast_a_stop = further (event two_bids) (further (event commit) (further (event commit) (further (event failed_commit) (further (stop (inr (refl, refl))) here))))

its_bid_then_gets_its_number_at_once : run small (at_rest (first_bid ∷ [])) (two_bids ∷ []) ≡ record { leaving = record { letter = from_first_seat first_bid; at = 1; reply = replies.Ok 1 } ∷ record { letter = from_first_seat second_bid; at = 1; reply = replies.Refused refusals.Again } ∷ []; machine = at_rest (first_bid ∷ []) }
its_bid_then_gets_its_number_at_once = refl

-- Of two bids one is newly accepted. Before the third turn a stop leaves nothing. From the third turn on, failed or
-- not, it leaves nothing or the accepted bid. Once the bid is acknowledged, a stop leaves it.
pub record Stops : Type 0 where
  pub when_offered : (history : List Command) → MayStand (machine_after (two_bids ∷ [])) history ↔ (history ≡ [])
  pub before_landing : (history : List Command) → MayStand (machine_after (two_bids ∷ commit ∷ commit ∷ [])) history ↔ (history ≡ [])
  pub when_landed : (history : List Command) → MayStand (machine_after (two_bids ∷ commit ∷ commit ∷ commit ∷ [])) history ↔ ((history ≡ []) ⊎ (history ≡ first_bid ∷ []))
  pub when_third_fails : (history : List Command) → MayStand (machine_after (two_bids ∷ commit ∷ commit ∷ failed_commit ∷ [])) history ↔ ((history ≡ []) ⊎ (history ≡ first_bid ∷ []))
  pub when_acknowledged : (history : List Command) → MayStand (machine_after (two_bids ∷ commit ∷ commit ∷ commit ∷ commit ∷ [])) history ↔ (history ≡ first_bid ∷ [])
