use Rattle.std.proofs.Common.{◌≡◌, ◌++◌, ◌∷◌, [], List, take, length, ap, sym, subst, ◌∙◌, arith}
use Rattle.std.proofs.lemmas.List.{length-take-le, take_all}
use Rattle.hpb_rules.specs.declared.command.Command.{Command}
use Rattle.hpb_rules.specs.declared.letter.Answer.{Answer}
use Rattle.hpb_rules.specs.declared.letter.Letter.{Letter}
use Rattle.hpb_rules.specs.AcceptedRuns.{AllAccepted}
use Rattle.hpb_rules.specs.AuctionValue.{AuctionValue, Shows}
use Rattle.hpb_rules.specs.Letters.{new_commands}
use Rattle.hpb_rules.specs.Values.{next_value, value_after}
use Rattle.hpb_rules.proofs.RunLaws.{accepted_are_counted, rest_is_shown}
use Rattle.hpb_rules.specs.Judging.{answer_in, judged_in, value_by}
use Rattle.hpb_auction.proofs.Fronts.{front_more}
use Rattle.hpb_auction.proofs.KeptLetters.{accepted_known, accepted_tickets}
use Rattle.hpb_rules.proofs.Judged.{fewer_new, judged_counted, judged_is_shown, judged_join, new_accepted, new_after, new_join, value_join}
use Rattle.hpb_auction.proofs.letters.judge_letters.Goals as goal

pub judge_letter-requires-clause-room : goal.judge_letter-requires-clause-room
judge_letter-requires-clause-room c =
    let at = c.loop-letter.letter-index in
    let letters : List Letter = c.args.letters.now in
    let inside : length c.as_slice-letter-items.result.now ≡ length letters = ap length c.as_slice-letter-items.ensures.value in
    let answered : length c.loop-letter.answers ≡ at
    = ap length c.loop-letter.invariant.1 ∙ judged_counted c.args.auction.now (take at letters) ∙ length-take-le at letters (omega (arith, c.loop-letter-test.true, inside)) in
    omega (arith, answered, c.loop-letter-test.true, c.as_slice-letter-items.ensures.most)

pub judge_letter-requires-clause-more_room : goal.judge_letter-requires-clause-more_room
judge_letter-requires-clause-more_room c =
    omega (arith, ap length c.loop-letter.invariant.2, fewer_new c.loop-letter.answers, judge_letter-requires-clause-room c)

pub loop-letter-preserved : goal.loop-letter-preserved
loop-letter-preserved c =
    let start : AuctionValue = c.args.auction.now in
    let letter : Letter = c.letter-item.result in
    let done : List Letter = take c.loop-letter.letter-index c.args.letters.now in
    let more = front_more c.as_slice-letter-items.result.now c.args.letters.now c.as_slice-letter-items.ensures.value c.loop-letter.letter-index letter c.loop-letter-test.true c.letter-item.is in
    let answers : c.judge_letter.new.answers ≡ c.loop-letter.answers ++ answer_in c.loop-letter.auction letter ∷ [] = c.judge_letter.ensures.answered in (
      c.judge_letter.ensures.value ∙ ap (λ (v : AuctionValue). next_value v letter.command) c.loop-letter.invariant.0
          ∙ sym (ap (value_by start) more ∙ value_join start done (letter ∷ [])),
      answers ∙ ap (λ (l : List Answer). l ++ answer_in c.loop-letter.auction letter ∷ []) c.loop-letter.invariant.1
          ∙ ap (λ (v : AuctionValue). judged_in start done ++ answer_in v letter ∷ []) c.loop-letter.invariant.0
          ∙ sym (ap (judged_in start) more ∙ judged_join start done (letter ∷ [])),
      c.judge_letter.ensures.accepted ∙ ap (λ (l : List Command). l ++ new_commands (answer_in c.loop-letter.auction letter ∷ [])) c.loop-letter.invariant.2
          ∙ sym (ap new_commands answers ∙ new_join c.loop-letter.answers (answer_in c.loop-letter.auction letter ∷ [])),
    )

pub returns-clause-value : goal.returns-clause-value
returns-clause-value c =
    let whole : take c.loop-letter.letter-index c.args.letters.now ≡ c.args.letters.now
    = take_all c.loop-letter.letter-index c.args.letters.now (omega (arith, c.loop-letter-test.false, ap length c.as_slice-letter-items.ensures.value)) in
    c.loop-letter.invariant.1 ∙ ap (judged_in c.args.auction.now) whole

pub returns-clause-answers : goal.returns-clause-answers
returns-clause-answers c history shows = returns-clause-value c ∙ judged_is_shown c.args.auction.now history c.args.letters.now shows

pub returns-clause-accepted : goal.returns-clause-accepted
returns-clause-accepted c =
    let new : c.loop-letter.commands ≡ new_commands (judged_in c.args.auction.now c.args.letters.now) = c.loop-letter.invariant.2 ∙ ap new_commands (returns-clause-value c) in
    subst (AllAccepted c.args.auction.now) (sym new) (new_accepted c.args.auction.now c.args.letters.now)

pub returns-clause-after : goal.returns-clause-after
returns-clause-after c =
    let start : AuctionValue = c.args.auction.now in
    let letters : List Letter = c.args.letters.now in
    let whole : take c.loop-letter.letter-index letters ≡ letters
    = take_all c.loop-letter.letter-index letters (omega (arith, c.loop-letter-test.false, ap length c.as_slice-letter-items.ensures.value)) in
    let new : c.loop-letter.commands ≡ new_commands (judged_in start letters) = c.loop-letter.invariant.2 ∙ ap new_commands (returns-clause-value c) in
    c.loop-letter.invariant.0 ∙ ap (value_by start) whole ∙ sym (new_after start letters) ∙ ap (value_after start) (sym new)

pub returns-clause-shown : goal.returns-clause-shown
returns-clause-shown c history shows =
    subst (λ (v : AuctionValue). Shows v (history ++ c.loop-letter.commands)) (sym (returns-clause-after c))
    (rest_is_shown c.args.auction.now history c.loop-letter.commands shows (returns-clause-accepted c))

pub returns-clause-none : goal.returns-clause-none
returns-clause-none c none = returns-clause-after c ∙ ap (value_after c.args.auction.now) none

pub returns-clause-rules : goal.returns-clause-rules
returns-clause-rules c =
    ap (λ (v : AuctionValue). v.rules) (returns-clause-after c) ∙ (accepted_are_counted c.args.auction.now c.loop-letter.commands (returns-clause-accepted c)).1

pub returns-clause-counted : goal.returns-clause-counted
returns-clause-counted c =
    ap (λ (v : AuctionValue). v.count) (returns-clause-after c) ∙ (accepted_are_counted c.args.auction.now c.loop-letter.commands (returns-clause-accepted c)).0

pub returns-clause-tickets : goal.returns-clause-tickets
returns-clause-tickets c = accepted_tickets c.args.auction.now c.loop-letter.commands (returns-clause-accepted c)

pub returns-clause-known : goal.returns-clause-known
returns-clause-known c = accepted_known c.args.auction.now c.loop-letter.commands (returns-clause-accepted c)

pub returns-clause-each : goal.returns-clause-each
returns-clause-each c = ap length (returns-clause-value c) ∙ judged_counted c.args.auction.now c.args.letters.now

pub returns-clause-most_answers : goal.returns-clause-most_answers
returns-clause-most_answers c = omega (arith, returns-clause-each c, ap length c.as_slice-letter-items.ensures.value, c.as_slice-letter-items.ensures.most)

pub returns-clause-most_commands : goal.returns-clause-most_commands
returns-clause-most_commands c = omega (arith, ap length c.loop-letter.invariant.2, fewer_new c.loop-letter.answers, returns-clause-most_answers c)
