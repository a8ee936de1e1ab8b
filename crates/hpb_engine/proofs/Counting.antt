-- An answer that fits a list of commands and accepts one names a number in it.
use Rattle.std.proofs.Common.{◌≡◌, ◌⊎◌, inl, inr, ⊎_elim, ℕ, suc, ◌-◌, ◌≤◌, Bool, true, false, List, Option, Some, None, length, take, reverse, sym, ◌∙◌, ap, arith}
use Rattle.std.specs.Prelude.{if◌then◌else◌, ◌==◌, ◌||◌, nat_lt, nat_le, MatchOption, slice_get}
use Rattle.std.proofs.lemmas.Bool.{eq-eqb}
use Rattle.std.proofs.lemmas.List.{length-reverse, length-take-le}
use Rattle.std.proofs.lemmas.Option.{slice_get_within}
use Rattle.hpb_rules.specs.declared.command.Command.{Command}
use Rattle.hpb_rules.specs.declared.letter.Answer.{Answer}
use Rattle.hpb_rules.specs.declared.limits.TheConstants.{MOST_COMMANDS}
use Rattle.hpb_rules.specs.declared.refusal.Refusal.{Refusal}
use Rattle.hpb_rules.specs.declared.refusal.Refusal.TheVariants as refusals
use Rattle.hpb_rules.specs.declared.reply.Reply.{Reply}
use Rattle.hpb_rules.specs.declared.reply.Reply.TheVariants as replies
use Rattle.hpb_rules.specs.Answer.{answer, fault, is_reply_new, ok_or_fault, repeated, reply_by, unknown}
use Rattle.hpb_rules.specs.History
use Rattle.hpb_rules.specs.HistoryLaws.{IsLast}
use Rattle.hpb_rules.specs.Letters.{Fits}
use Rattle.hpb_rules.specs.Tree.{Rules}
use Rattle.hpb_rules.proofs.RunLaws.{last_stands}
use Rattle.hpb_engine.specs.Points.{IsCounted}

-- A reply that accepts is the repeat, or the next number.
module _ (repeat : Reply) (count number : ℕ) where
  next : (fault : Option Refusal) → ok_or_fault (suc count) fault ≡ replies.Ok number → number ≡ suc count
  next None is = cc
  next (Some refusal) is = absurd (cc)

  by_tests : (a b c d e : Bool) (fault : Option Refusal) → (if a then replies.Refused refusals.Old else (if b then repeat else (if c then replies.Refused refusals.Gap else
      (if d then replies.Refused refusals.Limit else (if e then replies.Refused refusals.Closed else ok_or_fault (suc count) fault))))) ≡ replies.Ok number
      → (repeat ≡ replies.Ok number) ⊎ (number ≡ suc count)
  by_tests true b c d e fault is = absurd (cc)
  by_tests false true c d e fault is = inl is
  by_tests false false true d e fault is = absurd (cc)
  by_tests false false false true e fault is = absurd (cc)
  by_tests false false false false true fault is = absurd (cc)
  by_tests false false false false false fault is = inr (next fault is)

  reply_ok : (stranger : Option Refusal) (ticket last : ℕ) (over : Bool) (fault : Option Refusal) → reply_by stranger ticket last repeat count over fault ≡ replies.Ok number
      → (repeat ≡ replies.Ok number) ⊎ (number ≡ suc count)
  reply_ok (Some refusal) ticket last over fault is = absurd (cc)
  reply_ok None ticket last over fault is =
      by_tests ((ticket == 0) || nat_lt ticket last) (ticket == last) (nat_lt (suc last) ticket) (nat_le MOST_COMMANDS count) over fault is

-- The number of a repeat is in the list.
module _ (history : List Command) (command : Command) (number : ℕ) where
  within : (same : Bool) (last : Command × ℕ) → IsLast history (History.sender_of command) last → (if same then replies.Ok last.1 else replies.Refused refusals.Ticket) ≡ replies.Ok number → (1 ≤ number) × (number ≤ length history)
  within true last stands is =
      let named : last.1 ≡ number = cc in
      (omega (arith, named, stands.numbered), omega (arith, named, stands.numbered, slice_get_within history (last.1 - 1) last.0 stands.stands))
  within false last stands is = absurd (cc)

  repeat_within : (last : Option (Command × ℕ)) → MatchOption last ((place : ℕ) (c : Command) → slice_get history place ≡ Some c → History.sender_of c ≡ History.sender_of command → ⊥) (IsLast history (History.sender_of command))
      → repeated command last ≡ replies.Ok number → (1 ≤ number) × (number ≤ length history)
  repeat_within None nothing is = absurd (cc)
  repeat_within (Some last) stands is = within (History.same_command command last.0) last stands is

pub counts : (rules : Rules) (seen : List Command) (answered : Answer) → Fits rules seen answered → IsCounted seen answered
counts rules seen answered fits number is =
    let history : List Command = take answered.at seen in
    let command = answered.letter.command in
    let sender = History.sender_of command in
    let past : List Command = reverse history in
    let size : length history ≡ answered.at = length-take-le answered.at seen fits.within in
    let given : answer rules history command ≡ replies.Ok number = sym fits.reply ∙ is in
    ⊎_elim
    (λ again.
    let found = repeat_within history command number (History.last_of past sender) (last_stands history sender) again in
    (found.0, omega (arith, size, fits.within, found.1)))
    (λ new.
    let named : number ≡ suc answered.at = omega (arith, new, length-reverse history, size) in
    let accepted : is_reply_new answered.at answered.reply ≡ true = ap (is_reply_new answered.at) is ∙ eq-eqb number (suc answered.at) named in
    (omega (arith, named), omega (arith, named, slice_get_within seen answered.at command (fits.stands accepted))))
    (reply_ok (repeated command (History.last_of past sender)) (length past) number (unknown rules command) (History.ticket_of command) (History.last_ticket past sender)
    (History.is_over past) (fault rules past command) given)
