-- The reply by tickets and then by the state is the reply of the rules.
use Rattle.std.proofs.Common.{◌≡◌, ℕ, Bool, true, false, Option, Some, None, refl}
use Rattle.std.specs.Prelude.{if◌then◌else◌, ◌==◌, ◌||◌, nat_lt, suc}
use Rattle.hpb_rules.specs.declared.command.Command.{Command}
use Rattle.hpb_rules.specs.declared.reply.Reply.{Reply}
use Rattle.hpb_rules.specs.declared.refusal.Refusal.{Refusal}
use Rattle.hpb_rules.specs.declared.refusal.Refusal.TheVariants as refusals
use Rattle.hpb_rules.specs.declared.reply.Reply.TheVariants as replies
use Rattle.hpb_rules.specs.Answer.{reply_by, repeated}
use Rattle.hpb_rules.specs.History.{ticket_of, ticket_of_last}
use Rattle.hpb_auction.specs.Verdicts.{decided, ticket_reply, state_reply}

three_tests : (a b c : Bool) (x y z later : Reply)
    → decided (if a then Some x else (if b then Some y else (if c then Some z else None))) later ≡ (if a then x else (if b then y else (if c then z else later)))
three_tests true b c x y z later = refl
three_tests false true c x y z later = refl
three_tests false false true x y z later = refl
three_tests false false false x y z later = refl

pub decided_by_rules : (command : Command) (last : Option (Command × ℕ)) (count : ℕ) (over : Bool) (fault : Option Refusal)
    → decided (ticket_reply command last) (state_reply count over fault) ≡ reply_by None (ticket_of command) (ticket_of_last last) (repeated command last) count over fault
decided_by_rules command last count over fault =
    three_tests ((ticket_of command == 0) || nat_lt (ticket_of command) (ticket_of_last last)) (ticket_of command == ticket_of_last last) (nat_lt (suc (ticket_of_last last)) (ticket_of command))
    (replies.Refused refusals.Old) (repeated command last) (replies.Refused refusals.Gap) (state_reply count over fault)
