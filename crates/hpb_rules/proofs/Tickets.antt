-- A sender's last ticket is the ticket of its last command.
use Rattle.std.proofs.Common.{◌≡◌, ℕ, suc, ◌+◌, Bool, true, false, cond, List, [], ◌∷◌, ◌++◌, take, drop, reverse, Option, Some, None, length, refl, ap, sym, ◌∙◌, arith, subst}
use Rattle.hpb_rules.specs.declared.command.Command.{Command}
use Rattle.hpb_rules.specs.Tree.{Rules}
use Rattle.hpb_rules.specs.History.{Sender, is_from, last_ticket, last_of, ticket_of_last}
use Rattle.hpb_rules.specs.Answer.{IsPast}
use Rattle.hpb_rules.specs.HistoryLaws.{TicketsCount}
use Rattle.hpb_rules.proofs.Pasts.{ticket_more, new_after, last_is}
use Rattle.hpb_rules.proofs.Lists.{split_at, reverse_seam}

-- a sender without a last command has no ticket
pub no_ticket : (past : List Command) (sender : Sender) → last_of past sender ≡ None → last_ticket past sender ≡ 0
no_ticket [] sender e = refl
no_ticket (newest ∷ past) sender e = ticket_more newest past sender ∙ by (no_ticket past sender) (is_from sender newest) e
  where
    by : (last_of past sender ≡ None → last_ticket past sender ≡ 0) → (own : Bool) → cond own (Some (newest, suc (length past))) (last_of past sender) ≡ None → cond own 1 0 + last_ticket past sender ≡ 0
    by rest true f = absurd (cc)
    by rest false f = omega (arith, rest f)

pub ticket_is_last : (rules : Rules) (past : List Command) → IsPast rules past → (sender : Sender) → last_ticket past sender ≡ ticket_of_last (last_of past sender)
ticket_is_last rules past is sender = by (last_of past sender) refl
  where
    by : (last : Option (Command × ℕ)) → last_of past sender ≡ last → last_ticket past sender ≡ ticket_of_last last
    by None e = no_ticket past sender e
    by (Some last) e = sym (last_is rules past sender last.0 last.1 is e).1

pub tickets_count : TicketsCount
tickets_count rules history place command is e =
    let cut : reverse history ≡ reverse (drop (suc place) history) ++ command ∷ reverse (take place history)
    = ap reverse (split_at history place command e) ∙ reverse_seam (take place history) (drop (suc place) history) command in
    (new_after rules (reverse (drop (suc place) history)) (reverse (take place history)) command (subst (IsPast rules) cut is)).next
