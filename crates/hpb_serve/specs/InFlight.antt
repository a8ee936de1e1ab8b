-- Commands of a session that are sent together: how their letters wait, and how those without an answer are refused.
-- Source: this project's own.
use Rattle.std.specs.Prelude.{◌≡◌, ℕ, ◌+◌, ◌≤◌, List, [], ◌∷◌, drop, map, replicate, true, Some, None, slice_get}
use Rattle.rtrb.specs.Ring.{SameProducer}
use Rattle.hpb_rules.specs.declared.command.Command.{Command}
use Rattle.hpb_rules.specs.declared.letter.Answer.{Answer}
use Rattle.hpb_rules.specs.declared.reply.Reply.{Reply}
use Rattle.hpb_rules.specs.declared.reply.Reply.TheVariants as replies
use Rattle.hpb_board.specs.Publication.{Viewing, answers_of}
use Rattle.hpb_rings.specs.Marks.{greatest}
use Rattle.hpb_rings.specs.Taking.{IsForOldest}
use Rattle.hpb_rings.specs.declared.client.Client.{Client}
use Rattle.hpb_rings.specs.declared.waiting.Waiting.{Waiting}
use Rattle.hpb_serve.specs.Sessions.{Follows, IsToldBy, State}
use Rattle.hpb_serve.specs.Stops.{refusal_of}
use Rattle.hpb_serve.specs.declared.stop.Stop.{Stop}
use Rattle.hpb_serve.specs.declared.stop.Stop.TheVariants.{Halted, Order}

-- Letters of a seat with these commands wait; all were posted with one mark.
abbrev pub waiting_for : (seat mark : ℕ) → List Command → List Waiting
waiting_for seat mark commands = map (λ (command : Command). record { letter = record { seat = seat; command = command }; mark = mark }) commands

-- When the answer to the oldest letter that waits comes, it was given after at least this many accepted commands.
abbrev pub AwaitsAfter : {M : Type 0} → Client M → ℕ → Type 0
AwaitsAfter client count =
    (view : Viewing) (given : Answer) → Follows client.viewer view → slice_get (answers_of client.seat view) client.taken ≡ Some given → IsForOldest client.waiting.items given → count ≤ given.at

-- A client went on from a state of its session, whose commands get answers of the rules. It has that seat, that ring
-- and that viewer. It knows of at least as many accepted commands as the session has reported.
abbrev pub CameFrom : {M : Type 0} → State → Client M → Type 0
CameFrom state client = (client.seat ≡ state.seat) × SameProducer state.letters client.letters × Follows state.viewing client.viewer × (state.told ≤ client.mark) × (state.stop ≡ None)

-- A client has looked, once or more. It has the same seat and ring, and its viewer follows the earlier one. It knows of
-- no fewer accepted commands, and it is still halted if it was.
abbrev pub HasLooked : {M : Type 0} → Client M → Client M → Type 0
HasLooked old new = (new.seat ≡ old.seat) × (new.letters ≡ old.letters) × Follows old.viewer new.viewer × (old.mark ≤ new.mark) × (old.is_halted ≡ true → new.is_halted ≡ true)

-- It has taken the next answer: its viewer has it, it is for the oldest letter that waited, and the client knows all
-- that it says.
abbrev pub HasTaken : {M : Type 0} → Client M → Client M → Answer → Type 0
HasTaken old new given =
    (slice_get (answers_of new.seat new.viewer) old.taken ≡ Some given) × IsForOldest old.waiting.items given × IsToldBy (answers_of new.seat new.viewer) given × (greatest old.mark given ≤ new.mark)
    × (new.taken ≡ old.taken + 1) × (new.waiting.items ≡ drop 1 old.waiting.items)

-- It has taken no answer: the same letters wait.
abbrev pub StillWaits : {M : Type 0} → Client M → Client M → Type 0
StillWaits old new = (new.taken ≡ old.taken) × (new.waiting ≡ old.waiting)

-- The replies to this many commands if the first of them gets no answer. If the client is halted, each is refused.
-- Otherwise the first one is, which ends the session.
abbrev pub refused_by : Stop → ℕ → List Reply
refused_by Halted count = replicate count (replies.Refused (refusal_of Halted))
refused_by Order count = replies.Refused (refusal_of Order) ∷ []

-- The replies to this many commands behind that one. If the client is halted, each is refused; otherwise none gets a
-- reply.
abbrev pub refused_after : Stop → ℕ → List Reply
refused_after Halted count = replicate count (replies.Refused (refusal_of Halted))
refused_after Order count = []
