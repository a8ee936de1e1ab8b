-- The line for a terminal beside a refused command: the number that would do, by the auction as it stands. Source: this
-- project's own.
use Rattle.std.specs.Prelude.{ℕ, suc, ◌<◌, List, ◌++◌, Option, Some, None, codes, decimal, length}
use Rattle.hpb_rules.specs.declared.command.Command.{Command}
use Rattle.hpb_rules.specs.declared.command.Command.TheVariants.{Bid, Close, Stage, Waive}
use Rattle.hpb_rules.specs.declared.limits.TheConstants.{MOST_AMOUNT}
use Rattle.hpb_rules.specs.declared.refusal.Refusal.{Refusal}
use Rattle.hpb_rules.specs.declared.refusal.Refusal.TheVariants as refusals
use Rattle.hpb_rules.specs.Tree.{Rules}
use Rattle.hpb_rules.specs.Answer.{unknown}
use Rattle.hpb_rules.specs.AuctionValue.{AuctionValue}
use Rattle.hpb_rules.specs.Rounds.{Sender, auctioneer, bidder, sender_of}
use Rattle.hpb_rules.specs.Text.{bidder_name, node_name}
use Rattle.hpb_rules.specs.Values.{activity_in, bidder_at, minimum_in, ticket_at}
use Rattle.hpb_wire.specs.declared.reasons.Reason.{Reason}
use Rattle.hpb_wire.specs.declared.reasons.Reason.TheVariants as reasons

-- **Texts.**
--
-- The next ticket of a sender,
abbrev pub next_ticket_text : (name : List ℕ) (ticket : ℕ) → List ℕ
next_ticket_text name ticket = codes "the next ticket of " ++ name ++ codes " is " ++ decimal ticket

-- the step,
abbrev pub step_text : ℕ → List ℕ
step_text dollars = codes "an amount is a multiple of " ++ decimal dollars ++ codes " dollars"

-- the least amount that may be bid on a node,
abbrev pub least_text : (name : List ℕ) (dollars : ℕ) → List ℕ
least_text name dollars = codes "the least that may be bid on " ++ name ++ codes " is " ++ decimal dollars ++ codes " dollars"

-- the greatest amount that may be bid on any node,
abbrev pub most_text : ℕ → List ℕ
most_text dollars = codes "the most that may be bid is " ++ decimal dollars ++ codes " dollars"

-- and a bidder's eligibility and activity, in bidding units.
abbrev pub units_text : (name : List ℕ) (eligibility activity : ℕ) → List ℕ
units_text name eligibility activity =
    name ++ codes " is eligible for " ++ decimal eligibility ++ codes " bidding units, and active on " ++ decimal activity ++ codes " without this bid"

-- **Reasons by a value.**
--
-- The name of a sender.
abbrev pub sender_name : Rules → Sender → List ℕ
sender_name rules (bidder from) = bidder_name rules.bidders from
sender_name rules auctioneer = codes "the auctioneer"

-- A sender's next ticket is one more than its last.
abbrev pub ticket_text : AuctionValue → Sender → List ℕ
ticket_text value sender = next_ticket_text (sender_name value.rules sender) (suc (ticket_at value sender))

-- The least amount that may be bid on a bid's node: its minimum, as `NODE` shows it.
abbrev pub least_of : AuctionValue → Command → Option (List ℕ)
least_of value (Bid from ticket on amount) = Some (least_text (node_name value.rules.nodes on) (minimum_in value on))
least_of value (Close ticket) = None
least_of value (Stage ticket) = None
least_of value (Waive from ticket) = None

-- The eligibility and the activity of a bid's bidder, as `WHO` shows them.
abbrev pub units_of : AuctionValue → Command → Option (List ℕ)
units_of value (Bid from ticket on amount) =
    Some (units_text (bidder_name value.rules.bidders from) (bidder_at value from).eligibility (activity_in value from))
units_of value (Close ticket) = None
units_of value (Stage ticket) = None
units_of value (Waive from ticket) = None

-- The reason for a refused command whose bidder and node are known. For 13, 14 and 15 it is the sender's next ticket,
-- for 21 the step, for 22 the least amount, for 23 the greatest, and for 25 the bidder's units. Other refusals have
-- none.
abbrev pub known_reason : AuctionValue → Command → Refusal → Option (List ℕ)
known_reason value command refusals.Old = Some (ticket_text value (sender_of command))
known_reason value command refusals.Ticket = Some (ticket_text value (sender_of command))
known_reason value command refusals.Gap = Some (ticket_text value (sender_of command))
known_reason value command refusals.Step = Some (step_text value.rules.step)
known_reason value command refusals.Low = least_of value command
known_reason value command refusals.High = Some (most_text MOST_AMOUNT)
known_reason value command refusals.Eligibility = units_of value command
known_reason value command refusal = None

-- A command whose bidder or node is unknown has no reason.
abbrev pub if_known : Option Refusal → Option (List ℕ) → Option (List ℕ)
if_known None reason = reason
if_known (Some refusal) reason = None

-- The reason for a refused command.
abbrev pub reason_in : AuctionValue → Command → Refusal → Option (List ℕ)
reason_in value command refusal = if_known (unknown value.rules command) (known_reason value command refusal)

-- The definition has the bidder and the node of a command.
abbrev pub AreKnown : Rules → Command → Type 0
AreKnown rules (Bid from ticket on amount) = (from < length rules.bidders) × (on < length rules.nodes)
AreKnown rules (Close ticket) = Unit {0}
AreKnown rules (Stage ticket) = Unit {0}
AreKnown rules (Waive from ticket) = from < length rules.bidders

-- **In the code.** The text of a reason.
abbrev pub text_of : Reason → List ℕ
text_of (reasons.BidderTicket name ticket) = next_ticket_text name.now ticket
text_of (reasons.AuctioneerTicket ticket) = next_ticket_text (codes "the auctioneer") ticket
text_of (reasons.Step dollars) = step_text dollars
text_of (reasons.Least name dollars) = least_text name.now dollars
text_of (reasons.Most dollars) = most_text dollars
text_of (reasons.Units name eligibility activity) = units_text name.now eligibility activity
