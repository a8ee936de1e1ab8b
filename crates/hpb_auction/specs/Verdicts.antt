-- The verdict on a command: by its sender's last command, and then by the state of the auction.
use Rattle.std.specs.Prelude.{◌≡◌, ◌≤◌, ℕ, suc, Bool, Option, Some, None, ⊤, ◌==◌, ◌||◌, nat_lt, nat_le, if◌then◌else◌}
use Rattle.std.specs.Borrow.{Bor}
use Rattle.hpb_rules.specs.declared.command.Command.{Command}
use Rattle.hpb_rules.specs.declared.reply.Reply.{Reply}
use Rattle.hpb_rules.specs.declared.reply.Reply.TheVariants as replies
use Rattle.hpb_rules.specs.declared.refusal.Refusal.{Refusal}
use Rattle.hpb_rules.specs.declared.refusal.Refusal.TheVariants as refusals
use Rattle.hpb_rules.specs.declared.limits.TheConstants.{MOST_COMMANDS}
use Rattle.hpb_rules.specs.Answer
use Rattle.hpb_rules.specs.History.{ticket_of, ticket_of_last}
use Rattle.hpb_rules.specs.declared.saved.Accepted.{Accepted}
use Rattle.hpb_auction.specs.declared.verdict.Verdict.{Verdict}
use Rattle.hpb_auction.specs.declared.verdict.Verdict.TheVariants.{New, Repeat, Refused}

-- The reply to the sender.
abbrev pub reply_of : Verdict → Reply
reply_of (New number) = replies.Ok number
reply_of (Repeat number) = replies.Ok number
reply_of (Refused refusal) = replies.Refused refusal

-- A sender's last command with its number, from the value that was read.
abbrev pub read_last : Option (Bor Accepted) → Option (Command × ℕ)
read_last None = None
read_last (Some accepted) = Some (accepted.now.command, accepted.now.number)

-- The number of a sender's last command, or 0 if it has none.
abbrev pub number_of_last : Option (Command × ℕ) → ℕ
number_of_last None = 0
number_of_last (Some last) = last.1

-- The reply if the ticket decides it: the command repeats its sender's last one, or its ticket isn't the next.
abbrev pub ticket_reply : Command → Option (Command × ℕ) → Option Reply
ticket_reply command last =
    if (ticket_of command == 0) || nat_lt (ticket_of command) (ticket_of_last last) then Some (replies.Refused refusals.Old) else
    (if ticket_of command == ticket_of_last last then Some (Answer.repeated command last) else
    (if nat_lt (suc (ticket_of_last last)) (ticket_of command) then Some (replies.Refused refusals.Gap) else None))

-- The reply to a command with the next ticket. It is refused if there is no room for it, if the auction is over, or if
-- it has a fault.
abbrev pub state_reply : ℕ → Bool → Option Refusal → Reply
state_reply count over fault =
    if nat_le MOST_COMMANDS count then replies.Refused refusals.Limit else
    (if over then replies.Refused refusals.Closed else Answer.ok_or_fault (suc count) fault)

-- The reply to the sender, if there is a verdict.
abbrev pub reply_told : Option Verdict → Option Reply
reply_told None = None
reply_told (Some verdict) = Some (reply_of verdict)

-- A property of the number, if the command is newly accepted.
abbrev pub IfNew : Verdict → (ℕ → Type 0) → Type 0
IfNew (New number) P = P number
IfNew (Repeat number) P = ⊤
IfNew (Refused refusal) P = ⊤

-- A property of the number, if the command repeats its sender's last one.
abbrev pub IfRepeat : Verdict → (ℕ → Type 0) → Type 0
IfRepeat (New number) P = ⊤
IfRepeat (Repeat number) P = P number
IfRepeat (Refused refusal) P = ⊤

-- The first reply if there is one, else the second.
abbrev pub decided : Option Reply → Reply → Reply
decided None later = later
decided (Some reply) later = reply

-- The value that was read is a sender's last command, and its number is at most the number of commands.
pub record IsFoundIn (own : Option (Command × ℕ)) (count : ℕ) (read : Option (Bor Accepted)) : Type 0 where
  pub last : read_last read ≡ own
  pub number : number_of_last own ≤ count
