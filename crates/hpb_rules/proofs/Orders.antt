-- The reply is that of the first test in the order of refusals that applies.
use Rattle.std.proofs.Common.{◌≡◌, ℕ, suc, Bool, true, false, ◌||◌, ◌&&◌, eqb, ltb, leb, List, ◌∷◌, reverse, Option, Some, None, length, refl, ap, ◌∙◌}
use Rattle.std.specs.Prelude.{if◌then◌else◌}
use Rattle.std.proofs.lemmas.Bool.{eqb-true, both_ways, or_left}
use Rattle.std.proofs.lemmas.List.{length-reverse}
use Rattle.hpb_rules.specs.declared.command.Command.{Command}
use Rattle.hpb_rules.specs.declared.command.Command.TheVariants.{Bid, Close, Stage, Waive}
use Rattle.hpb_rules.specs.declared.reply.Reply.{Reply}
use Rattle.hpb_rules.specs.declared.reply.Reply.TheVariants.{Ok, Refused}
use Rattle.hpb_rules.specs.declared.limits.TheConstants.{MOST_COMMANDS}
use Rattle.hpb_rules.specs.declared.refusal.Refusal.{Refusal}
use Rattle.hpb_rules.specs.declared.refusal.Refusal.TheVariants as refusals
use Rattle.hpb_rules.specs.Tree.{Rules}
use Rattle.hpb_rules.specs.History
use Rattle.hpb_rules.specs.Answer.{ok_or_fault, repeated, reply_by, fault, answer_after}
use Rattle.hpb_rules.specs.Order.{first_reply, is_last_again, last_number, own_tests, order, AnswerIsFirst}
use Rattle.hpb_rules.proofs.Tickets.{no_ticket}

-- no tests of its own, or one test more before others
test_more : (test : Bool) (refusal : Refusal) (number : ℕ) (rest : Option Refusal) (other : Reply) → ok_or_fault number rest ≡ other
    → ok_or_fault number (if test then Some refusal else rest) ≡ (if test then Refused refusal else other)
test_more true refusal number rest other e = refl
test_more false refusal number rest other e = e

-- the tests of a command's own kind
own : (rules : Rules) (past : List Command) (command : Command) (number : ℕ) → ok_or_fault number (fault rules past command) ≡ first_reply (own_tests rules past command) (Ok number)
own rules past (Bid from ticket node amount) number =
    test_more _ refusals.Step number _ _ (test_more _ refusals.Low number _ _ (test_more _ refusals.High number _ _ (test_more _ refusals.Again number _ _ (test_more _ refusals.Eligibility number None (Ok number) refl))))
own rules past (Close ticket) number = refl
own rules past (Stage ticket) number = test_more _ refusals.Stage number None (Ok number) refl
own rules past (Waive from ticket) number = test_more _ refusals.Waiver number _ _ (test_more _ refusals.Waived number None (Ok number) refl)

-- the tests of tickets, of room and of the end
known : (command : Command) (ticket last : ℕ) (last_command : Option (Command × ℕ)) (count : ℕ) (over : Bool) (wrong : Option Refusal) (tests : List (Bool × Reply))
    → (last_command ≡ None → last ≡ 0)
    → ok_or_fault (suc count) wrong ≡ first_reply tests (Ok (suc count))
    → reply_by None ticket last (repeated command last_command) count over wrong
    ≡ first_reply
    (((eqb ticket 0) || ltb ticket last, Refused refusals.Old)
    ∷ ((eqb ticket last) && is_last_again command last_command, Ok (last_number last_command))
    ∷ (eqb ticket last, Refused refusals.Ticket)
    ∷ (ltb (suc last) ticket, Refused refusals.Gap)
    ∷ (leb MOST_COMMANDS count, Refused refusals.Limit)
    ∷ (over, Refused refusals.Closed) ∷ tests)
    (Ok (suc count))
known command ticket last last_command count over wrong tests none e = by (eqb ticket 0 || ltb ticket last) refl (eqb ticket last) refl (ltb (suc last) ticket) (leb MOST_COMMANDS count) over last_command none
  where
    by : (old : Bool) → (eqb ticket 0 || ltb ticket last) ≡ old → (again : Bool) → eqb ticket last ≡ again → (gap full over : Bool) (last_command : Option (Command × ℕ)) → (last_command ≡ None → last ≡ 0)
        → (if old then Refused refusals.Old else (if again then repeated command last_command else (if gap then Refused refusals.Gap else (if full then Refused refusals.Limit else (if over then Refused refusals.Closed else ok_or_fault (suc count) wrong)))))
        ≡ (if old then Refused refusals.Old else (if again && is_last_again command last_command then Ok (last_number last_command) else (if again then Refused refusals.Ticket else (if gap then Refused refusals.Gap else (if full then Refused refusals.Limit else (if over then Refused refusals.Closed else first_reply tests (Ok (suc count))))))))
    by true p again q gap full over last_command none = refl
    by false p true q gap full over None none =
        let zero : ticket ≡ 0 = eqb-true ticket last q ∙ none refl in
        absurd (both_ways _ p (or_left (eqb ticket 0) (ltb ticket last) (ap (λ n. eqb n 0) zero)))
    by false p true q gap full over (Some found) none = refl
    by false p false q true full over last_command none = refl
    by false p false q false true over last_command none = refl
    by false p false q false false true last_command none = refl
    by false p false q false false false last_command none = e

module _ (rules : Rules) (past : List Command) where
  -- the tests behind those of names
  abbrev tests : Command → List (Bool × Reply)
  tests command =
      let ticket = History.ticket_of command in
      let last = History.last_ticket past (History.sender_of command) in
      let last_command = History.last_of past (History.sender_of command) in
      (eqb ticket 0 || ltb ticket last, Refused refusals.Old)
      ∷ (eqb ticket last && is_last_again command last_command, Ok (last_number last_command))
      ∷ (eqb ticket last, Refused refusals.Ticket)
      ∷ (ltb (suc last) ticket, Refused refusals.Gap)
      ∷ (leb MOST_COMMANDS (length past), Refused refusals.Limit)
      ∷ (History.is_over past, Refused refusals.Closed) ∷ own_tests rules past command

  abbrev reply : Option Refusal → Command → Reply
  reply names command =
      reply_by names (History.ticket_of command) (History.last_ticket past (History.sender_of command)) (repeated command (History.last_of past (History.sender_of command)))
      (length past) (History.is_over past) (fault rules past command)

  abbrev first : Command → Reply
  first command = first_reply (tests command) (Ok (suc (length past)))

  named : (command : Command) (bidder node : Bool) → reply None command ≡ first command
      → reply (if bidder then Some refusals.Bidder else (if node then Some refusals.Node else None)) command
      ≡ (if bidder then Refused refusals.Bidder else (if node then Refused refusals.Node else first command))
  named command true node e = refl
  named command false true e = refl
  named command false false e = e

  by_kind : (command : Command) → reply None command ≡ first command → answer_after rules past command ≡ first_reply (order rules past command) (Ok (suc (length past)))
  by_kind (Bid from ticket node amount) e = named (Bid from ticket node amount) (leb (length rules.bidders) from) (leb (length rules.nodes) node) e
  by_kind (Close ticket) e = e
  by_kind (Stage ticket) e = e
  by_kind (Waive from ticket) e = named (Waive from ticket) (leb (length rules.bidders) from) false e

  answered : (command : Command) → answer_after rules past command ≡ first_reply (order rules past command) (Ok (suc (length past)))
  answered command =
      let sender = History.sender_of command in
      by_kind command (known command (History.ticket_of command) (History.last_ticket past sender) (History.last_of past sender) (length past) (History.is_over past)
      (fault rules past command) (own_tests rules past command) (no_ticket past sender) (own rules past command (suc (length past))))

pub answer_is_first : AnswerIsFirst
answer_is_first rules history command =
    answered rules (reverse history) command
    ∙ ap (λ count. first_reply (order rules (reverse history) command) (Ok (suc count))) (length-reverse history)
