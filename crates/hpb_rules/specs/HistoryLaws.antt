-- The laws of answers, of histories and of the histories that a value shows.
use Rattle.std.specs.Prelude.{◌≡◌, ◌≢◌, ◌↔◌, ℕ, suc, ◌-◌, ◌%◌, ◌<◌, ◌≤◌, false, List, [], ◌∷◌, ◌++◌, reverse, take, length, Some, None, MatchOption, slice_get}
use Rattle.std.specs.Bool.{Decides}
use Rattle.hpb_rules.specs.declared.command.Command.{Command}
use Rattle.hpb_rules.specs.declared.command.Command.TheVariants.{Bid}
use Rattle.hpb_rules.specs.declared.reply.Reply.TheVariants as replies
use Rattle.hpb_rules.specs.declared.limits.TheConstants.{MOST_AMOUNT, MOST_COMMANDS}
use Rattle.hpb_rules.specs.Tree.{Rules, opening}
use Rattle.hpb_rules.specs.Drafts.{draft_refusal}
use Rattle.hpb_rules.specs.History
use Rattle.hpb_rules.specs.Answer.{unknown, fault, answer, after, IsPast, IsHistory}
use Rattle.hpb_rules.specs.AuctionValue.{AuctionValue, value_of, Shows}

-- A command is new after a past: its names are known, its ticket is its sender's next, there is room, the auction isn't
-- over, and it has no fault.
pub record IsNew (rules : Rules) (past : List Command) (command : Command) : Type 0 where
  pub known : unknown rules command ≡ None
  pub next : History.ticket_of command ≡ suc (History.last_ticket past (History.sender_of command))
  pub room : length past < MOST_COMMANDS
  pub goes_on : History.is_over past ≡ false
  pub faultless : fault rules past command ≡ None

-- A command is accepted under the next number exactly if it is new.
abbrev pub AcceptedIsNew : Type 0
AcceptedIsNew = (rules : Rules) (history : List Command) (command : Command)
    → (answer rules history command ≡ replies.Ok (suc (length history))) ↔ IsNew rules (reverse history) command

-- A bid meets the rules if its bidder and its node are the definition's, and its amount is in range. The amount must be
-- a multiple of the step, at least the node's opening, more than 0, and at most the greatest amount.
pub record MeetsRules (rules : Rules) (from node amount : ℕ) : Type 0 where
  pub known_bidder : from < length rules.bidders
  pub known_node : node < length rules.nodes
  pub multiple : amount % rules.step ≡ 0
  pub meets_opening : opening rules.nodes node ≤ amount
  pub positive : 0 < amount
  pub possible : amount ≤ MOST_AMOUNT

-- In a past of a definition that isn't refused each bid meets the rules. Its bidder and its node are the definition's.
-- Its amount is a multiple of the step, at least the node's opening, more than 0, and at most the greatest.
abbrev pub BidsMeetRules : Type 0
BidsMeetRules = (rules : Rules) (past : List Command) (place from ticket node amount : ℕ) → draft_refusal rules ≡ None → IsPast rules past
    → slice_get past place ≡ Some (Bid from ticket node amount) → MeetsRules rules from node amount

-- Each command of a history bears a ticket one greater than its sender's last ticket before it. So in a history a
-- sender's last ticket is the ticket of its last command.
abbrev pub TicketsCount : Type 0
TicketsCount = (rules : Rules) (history : List Command) (place : ℕ) (command : Command) → IsHistory rules history → slice_get history place ≡ Some command
    → History.ticket_of command ≡ suc (History.last_ticket (reverse (take place history)) (History.sender_of command))

-- A command with a number is a sender's last: it is the sender's, it stands in the history under that number, and no
-- later one is the sender's.
pub record IsLast (history : List Command) (sender : History.Sender) (last : Command × ℕ) : Type 0 where
  pub own : History.sender_of last.0 ≡ sender
  pub numbered : 0 < last.1
  pub stands : slice_get history (last.1 - 1) ≡ Some last.0
  pub none_later : (place : ℕ) (later : Command) → last.1 ≤ place → slice_get history place ≡ Some later → History.sender_of later ≢ sender

-- A sender's last command is its own, stands in the list under its number, and none of the sender's comes later. There
-- is none exactly if the sender sent nothing.
abbrev pub LastStands : Type 0
LastStands = (history : List Command) (sender : History.Sender)
    → MatchOption (History.last_of (reverse history) sender)
    ((place : ℕ) (command : Command) → slice_get history place ≡ Some command → History.sender_of command ≢ sender)
    (IsLast history sender)

-- Two commands are the same exactly if they are equal, and so are two senders.
abbrev pub SameIsEqual : Type 0
SameIsEqual = ((one other : Command) → Decides (History.same_command one other) (one ≡ other))
    × ((one other : History.Sender) → Decides (History.same_sender one other) (one ≡ other))

-- In a history of a definition that isn't refused the stage in force has a percentage from 50 to 100.
abbrev pub PercentageIsKnown : Type 0
PercentageIsKnown = (rules : Rules) (history : List Command) → draft_refusal rules ≡ None → IsHistory rules history
    → (50 ≤ History.percentage rules (reverse history)) × (History.percentage rules (reverse history) ≤ 100)

-- A history with a newly accepted command at its end is a history.
abbrev pub HistoryGrows : Type 0
HistoryGrows = (rules : Rules) (history : List Command) (command : Command)
    → IsHistory rules history → answer rules history command ≡ replies.Ok (suc (length history)) → IsHistory rules (history ++ command ∷ [])

-- Each front of a history is a history.
abbrev pub FrontIsHistory : Type 0
FrontIsHistory = (rules : Rules) (front rest : List Command) → IsHistory rules (front ++ rest) → IsHistory rules front

-- A sender's last command, sent again, gets its number again and changes nothing.
abbrev pub RepeatChangesNothing : Type 0
RepeatChangesNothing = (rules : Rules) (history : List Command) (command : Command) (number : ℕ) → IsHistory rules history
    → History.last_of (reverse history) (History.sender_of command) ≡ Some (command, number)
    → (answer rules history command ≡ replies.Ok number) × (after rules (reverse history) command ≡ reverse history)

-- An answer depends on nothing but the value. Several histories may lead to one value; after all of them the answers
-- are the same. This is a law about histories: a value keeps a sender's last command, and only in a history is the
-- ticket of that command the number of the sender's commands.
abbrev pub AnswerIsShown : Type 0
AnswerIsShown = (rules : Rules) (one other : List Command) (command : Command) → IsHistory rules one → IsHistory rules other
    → value_of rules (reverse one) ≡ value_of rules (reverse other) → answer rules one command ≡ answer rules other command

-- Two values of one definition that show the same history are equal.
abbrev pub ShownIsOne : Type 0
ShownIsOne = (one other : AuctionValue) (history : List Command)
    → one.rules ≡ other.rules → Shows one history → Shows other history → one ≡ other
