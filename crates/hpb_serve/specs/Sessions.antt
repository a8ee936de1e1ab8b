-- The state of a session with a client of a house, its replies, and the auction that it shows: a desk whose answers
-- fit.
-- Source: this project's own.
use Rattle.std.specs.Prelude.{◌≡◌, ◌⊎◌, ℕ, suc, ◌≤◌, Bool, List, ◌++◌, take, Option, Some, None, if◌then◌else◌, ⊤}
use Rattle.std.specs.declared.alloc.Global.{Global}
use mathlib.Core.List.{IsPrefix}
use Rattle.rtrb.specs.Ring.{SameProducer}
use Rattle.rtrb.specs.declared.AnyItems.{AnyItems}
use Rattle.rtrb.specs.declared.producer.Producer.{Producer}
use Rattle.hpb_rules.specs.declared.command.Command.{Command}
use Rattle.hpb_rules.specs.declared.letter.Answer.{Answer}
use Rattle.hpb_rules.specs.declared.limits.TheConstants.{MOST_WAITING}
use Rattle.hpb_rules.specs.declared.reply.Reply.{Reply}
use Rattle.hpb_rules.specs.declared.reply.Reply.TheVariants as replies
use Rattle.hpb_rules.specs.Answer.{history_after}
use Rattle.hpb_rules.specs.AuctionValue.{AuctionValue, Shows}
use Rattle.hpb_rules.specs.Fronts.{IsFront, joined}
use Rattle.hpb_rules.specs.Letters.{Fits, is_answer_new, new_commands}
use Rattle.hpb_rules.specs.Tree.{Rules}
use Rattle.hpb_rules.specs.Judging.{judged_in}
use Rattle.hpb_board.specs.Publication.{Viewing, answers_of, auction_of, recent}
use Rattle.hpb_rings.specs.declared.client.Client.{Client}
use Rattle.hpb_rings.specs.declared.slip.Slip.{Slip}
use Rattle.hpb_serve.specs.declared.stop.Stop.{Stop}
use Rattle.hpb_serve.specs.Stops.{is_over, refusal_of}

-- **States.** A viewer follows the same publisher from the same opened auction on, and has entered all that it had
-- entered before.
abbrev pub Follows : Viewing → Viewing → Type 0
Follows old new = (new.book ≡ old.book) × (new.opened ≡ old.opened) × (new.seats ≡ old.seats) × IsPrefix old.list new.list

-- The history that a viewer shows, if its opened auction shows this one: this history, and then the commands newly
-- accepted among the letters that it has entered.
abbrev pub seen_by : List Command → Viewing → List Command
seen_by opened viewing = opened ++ new_commands (judged_in viewing.opened (joined viewing.list))

-- An answer has some number among these answers.
abbrev pub IsToldBy : List Answer → Answer → Type 0
IsToldBy answers given = (number : ℕ) × (recent answers number ≡ Some given)

-- How many commands are accepted by an answer: those before it, and its own if that is newly accepted.
abbrev pub count_after : Answer → ℕ
count_after given = if is_answer_new given then suc given.at else given.at

-- The state of a session: its seat, its client's end of its letter ring, and its client's viewer. Also how many
-- accepted commands it has reported, and why its commands get no more answers of the rules, if they don't.
pub record State : Type 0 where
  pub seat : ℕ
  pub letters : Producer Slip Global AnyItems
  pub viewing : Viewing
  pub told : ℕ
  pub stop : Option Stop

-- The definition: it is that of the opened auction.
abbrev pub rules_at : State → Rules
rules_at state = state.viewing.opened.rules

-- Whether the session is over.
abbrev pub over_at : State → Bool
over_at state = is_over state.stop

-- How many commands are in flight, at most: posted together, before the first of them is answered.
abbrev pub most_in_flight : ℕ
most_in_flight = MOST_WAITING

-- The commands that a session has reported, if the opened auction shows this history: as many as `told` says of those
-- that the viewer then shows.
abbrev pub told_by : List Command → State → List Command
told_by opened state = take state.told (seen_by opened state.viewing)

-- The commands that a session may have reported: those.
abbrev pub TellsAt : State → List Command → Type 0
TellsAt state told = (opened : List Command) × Shows state.viewing.opened opened × (told ≡ told_by opened state)

-- A session goes on: it has the same client, and the commands that it reports go on from those reported before.
pub record GoesFrom (old new : State) : Type 0 where
  pub seat : new.seat ≡ old.seat
  pub letters : SameProducer old.letters new.letters
  pub viewer : Follows old.viewing new.viewing
  pub told : (opened : List Command) → IsFront (told_by opened old) (told_by opened new)

-- **Replies.** A command's reply is an answer to the seat's letter with that command, and the viewer has it. The answer
-- fits the history that the viewer shows. It was judged after a front of it that goes on from the commands that the
-- session has reported. So a session that has reported its own bid or another's is never judged by a list without it.
-- Or else the desk itself refuses the command, then and ever after.
--
-- Suppose the opened auction shows this history. An answer fits the history that the viewer shows, and was judged after
-- a front of it that goes on from the commands that the session has reported. The session then reports that front, with
-- the command at its end if it is newly accepted.
pub record FitsSession (old : State) (given : Answer) (new : State) (opened : List Command) : Type 0 where
  pub fits : Fits (rules_at old) (seen_by opened new.viewing) given
  pub later : IsFront (told_by opened old) (take given.at (seen_by opened new.viewing))
  pub told : told_by opened new ≡ history_after (rules_at old) (take given.at (seen_by opened new.viewing)) given.letter.command

-- A command's reply is an answer that fits: the seat's own answer to the letter with that command, which its client's
-- viewer has.
pub record Answers (old : State) (command : Command) (reply : Reply) (new : State) : Type 0 where
  pub given : Answer
  pub own : given.letter ≡ record { seat = old.seat; command = command }
  pub replied : reply ≡ given.reply
  pub among : IsToldBy (answers_of old.seat new.viewing) given
  pub fits : (opened : List Command) → Shows old.viewing.opened opened → FitsSession old given new opened
  pub before : old.stop ≡ None
  pub after : new.stop ≡ None

-- The desk itself refuses: it says why its commands get no answers of the rules, now and ever after.
pub record Stops (old : State) (reply : Reply) (new : State) : Type 0 where
  pub why : Stop
  pub before : (old.stop ≡ None) ⊎ (old.stop ≡ Some why)
  pub after : new.stop ≡ Some why
  pub replied : reply ≡ replies.Refused (refusal_of why)

-- A command gets an answer that fits, or the desk itself refuses it.
abbrev pub RepliesAt : State → Command → Reply → State → Type 0
RepliesAt old command reply new = GoesFrom old new × (Answers old command reply new ⊎ Stops old reply new)

-- **Looks.** A look shows the auction of the client's viewer, and reports all of its commands. Or there is no auction
-- to show any more.
abbrev pub ShowsSeen : Option AuctionValue → State → Type 0
ShowsSeen None new = ⊤
ShowsSeen (Some value) new = (value ≡ auction_of new.viewing) × ((opened : List Command) → Shows new.viewing.opened opened → (told_by opened new ≡ seen_by opened new.viewing) × Shows value (told_by opened new))

-- A look shows the auction, and stops nothing.
abbrev pub ShowsAt : State → Option AuctionValue → State → Type 0
ShowsAt old shown new = GoesFrom old new × (new.stop ≡ old.stop) × ShowsSeen shown new

-- A desk is at a state: its client has this seat, this end of its ring and this viewer. It knows of at least as many
-- accepted commands as the session has reported.
abbrev pub DeskStands : {M : Type 0} → Client M → Option Stop → State → Type 0
DeskStands client stop state = (state.seat ≡ client.seat) × (state.viewing ≡ client.viewer) × (state.told ≤ client.mark) × (state.stop ≡ stop) × (state.letters ≡ client.letters)

-- **Start and end.** At the end the client has finished; after a 95 it is handed back as it is.
--
-- The state at the start of a session with a client: all that the client's viewer shows counts as reported.
abbrev pub at_start : {M : Type 0} → Client M → State
at_start client = record { seat = client.seat; letters = client.letters; viewing = client.viewer; told = (auction_of client.viewer).count; stop = None }
