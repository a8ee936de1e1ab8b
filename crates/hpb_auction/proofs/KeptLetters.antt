-- An accepted command may be kept: it has a ticket, and its bidder and node are the definition's.
use Rattle.std.proofs.Common.{◌≡◌, ℕ, zero, suc, ◌<◌, Bool, true, List, [], ◌∷◌, Option, Some, None, refl, arith, subst}
use Rattle.std.specs.List.{AllByRecursion}
use Rattle.hpb_rules.specs.declared.command.Command.{Command}
use Rattle.hpb_rules.specs.declared.refusal.Refusal.{Refusal}
use Rattle.hpb_rules.specs.declared.reply.Reply.{Reply}
use Rattle.hpb_rules.specs.AcceptedRuns.{Accepts, AllAccepted}
use Rattle.hpb_rules.specs.Answer.{is_reply_new, reply_by, repeated, unknown}
use Rattle.hpb_rules.specs.AuctionValue.{AuctionValue}
use Rattle.hpb_rules.specs.History.{sender_of, ticket_of, ticket_of_last}
use Rattle.hpb_rules.specs.Tree.{Rules}
use Rattle.hpb_rules.specs.Values.{fault_in, last_at, next_value}
use Rattle.hpb_rules.specs.Rounds.{HasTicket}
use Rattle.hpb_rules.proofs.Judged.{next_rules}

-- no command is new with ticket 0, or with an unknown bidder or node
new_by : (u : Option Refusal) (ticket last : ℕ) (repeat : Reply) (count : ℕ) (over : Bool) (fault : Option Refusal)
    → is_reply_new count (reply_by u ticket last repeat count over fault) ≡ true → (0 < ticket) × (u ≡ None)
new_by (Some refusal) ticket last repeat count over fault new = absurd (cc)
new_by None zero last repeat count over fault new = absurd (cc)
new_by None (suc ticket) last repeat count over fault new = (omega arith, refl)

new_kept : (value : AuctionValue) (command : Command) → Accepts value command → HasTicket command × (unknown value.rules command ≡ None)
new_kept value command new =
    let last = last_at value (sender_of command) in
    new_by (unknown value.rules command) (ticket_of command) (ticket_of_last last) (repeated command last) value.count value.over (fault_in value command) new

pub accepted_tickets : (value : AuctionValue) (commands : List Command) → AllAccepted value commands → AllByRecursion HasTicket commands
accepted_tickets value [] accepted = tt
accepted_tickets value (command ∷ commands) accepted = ((new_kept value command accepted.0).0, accepted_tickets (next_value value command) commands accepted.1)

pub accepted_known : (value : AuctionValue) (commands : List Command) → AllAccepted value commands → AllByRecursion (λ command. unknown value.rules command ≡ None) commands
accepted_known value [] accepted = tt
accepted_known value (command ∷ commands) accepted = (
  (new_kept value command accepted.0).1,
  subst (λ (rules : Rules). AllByRecursion (λ command. unknown rules command ≡ None) commands) (next_rules value command)
      (accepted_known (next_value value command) commands accepted.1),
)
