-- Histories after commands, and answers to letters.
use Rattle.std.proofs.Common.{◌≡◌, ℕ, suc, Bool, true, false, cond, List, [], ◌∷◌, ◌++◌, map, reverse, length, refl, sym, ap, ◌∙◌, arith, subst, append_assoc}
use Rattle.std.specs.Prelude.{if◌then◌else◌, filter, slice_get, slice_index_or, All}
use Rattle.std.proofs.lemmas.Bool.{eqb-true}
use Rattle.std.proofs.lemmas.List.{take-append-le, length-append, length-reverse, reverse-append, reverse-reverse}
use Rattle.std.proofs.lemmas.List.Elements.{All-nil}
use Rattle.hpb_rules.specs.declared.command.Command.{Command}
use Rattle.hpb_rules.specs.declared.letter.Answer.{Answer}
use Rattle.hpb_rules.specs.declared.letter.Letter.{Letter}
use Rattle.hpb_rules.specs.declared.reply.Reply.{Reply}
use Rattle.hpb_rules.specs.declared.reply.Reply.TheVariants as replies
use Rattle.hpb_rules.specs.Tree.{Rules}
use Rattle.hpb_rules.specs.Answer.{answer, answer_after, is_reply_new, IsPast, IsHistory, after, history_after, replies_from, past_from}
use Rattle.hpb_rules.specs.Letters.{Fits, judged, is_answer_new, new_commands}
use Rattle.hpb_rules.specs.LetterLaws.{HistoryAfterAppends, FitsGrow, JudgedJoin, JudgedIsAnswered}
use Rattle.hpb_rules.proofs.Lists.{all_cons, append_nil, take_seam, get_seam, get_front}

pub new_reply : (n : ℕ) (reply : Reply) → is_reply_new n reply ≡ true → reply ≡ replies.Ok (suc n)
new_reply n (replies.Ok m) e = ap replies.Ok (eqb-true m (suc n) e)
new_reply n (replies.Refused refusal) e = absurd (cc)

-- ---- the history after a command
pub history_after_appends : HistoryAfterAppends
history_after_appends rules history command =
    ap (λ n. reverse (if is_reply_new n (answer rules history command) then command ∷ reverse history else reverse history)) (length-reverse history)
    ∙ by (is_reply_new (length history) (answer rules history command))
  where
    by : (new : Bool) → reverse (if new then command ∷ reverse history else reverse history) ≡ (if new then history ++ command ∷ [] else history)
    by true = ap reverse (sym (reverse-append history (command ∷ []))) ∙ reverse-reverse (history ++ command ∷ [])
    by false = reverse-reverse history

-- read backwards it is the past after the command
pub reverse_history_after : (rules : Rules) (history : List Command) (command : Command) → reverse (history_after rules history command) ≡ after rules (reverse history) command
reverse_history_after rules history command = reverse-reverse (after rules (reverse history) command)

after_is_past : (rules : Rules) (past : List Command) (command : Command) → IsPast rules past → IsPast rules (after rules past command)
after_is_past rules past command is = by (is_reply_new (length past) (answer_after rules past command)) refl
  where
    by : (new : Bool) → is_reply_new (length past) (answer_after rules past command) ≡ new → IsPast rules (if new then command ∷ past else past)
    by true e = (new_reply (length past) (answer_after rules past command) e, is)
    by false e = is

pub history_after_is_history : (rules : Rules) (history : List Command) (command : Command) → IsHistory rules history → IsHistory rules (history_after rules history command)
history_after_is_history rules history command is = subst (IsPast rules) (sym (reverse_history_after rules history command)) (after_is_past rules (reverse history) command is)

-- ---- answers that fit
pub fits_grow : FitsGrow
fits_grow rules seen more answered fits = record {
  within = omega (arith, fits.within, length-append seen more);
  reply = fits.reply ∙ ap (λ h. answer rules h answered.letter.command) (sym (take-append-le answered.at seen more fits.within));
  stands = λ new. get_front seen more answered.at answered.letter.command (fits.stands new);
}

pub all_fit_more : (rules : Rules) (seen more : List Command) (answers : List Answer) → All (Fits rules seen) answers → All (Fits rules (seen ++ more)) answers
all_fit_more rules seen more answers all k d h = fits_grow rules seen more (slice_index_or answers k d) (all k d h)

-- ---- letters judged one after another
module _ (rules : Rules) where
  -- a letter's answer
  abbrev answer_to : List Command → Letter → Answer
  answer_to history letter = record { letter = letter; at = length history; reply = answer rules history letter.command }

  -- the commands that one answer accepts, and then those of the other answers
  accepted_first : (history : List Command) (letter : Letter) (rest : List Answer)
      → history ++ new_commands (answer_to history letter ∷ rest) ≡ history_after rules history letter.command ++ new_commands rest
  accepted_first history letter rest = by (is_answer_new (answer_to history letter)) ∙ ap (λ h. h ++ new_commands rest) (sym (history_after_appends rules history letter.command))
    where
      by : (new : Bool) → history ++ map (λ (a : Answer). a.letter.command) (cond new (answer_to history letter ∷ filter is_answer_new rest) (filter is_answer_new rest))
          ≡ (if new then history ++ letter.command ∷ [] else history) ++ new_commands rest
      by true = sym (append_assoc history (letter.command ∷ []) (new_commands rest))
      by false = refl

  pub judged_history : (letters : List Letter) (history : List Command) → IsHistory rules history → IsHistory rules (history ++ new_commands (judged rules history letters))
  judged_history [] history is = subst (IsHistory rules) (append_nil history) is
  judged_history (letter ∷ letters) history is =
      let next : List Command = history_after rules history letter.command in
      subst (IsHistory rules) (sym (accepted_first history letter (judged rules next letters)))
      (judged_history letters next (history_after_is_history rules history letter.command is))

  first_fits : (history : List Command) (letter : Letter) (rest : List Answer) → Fits rules (history ++ new_commands (answer_to history letter ∷ rest)) (answer_to history letter)
  first_fits history letter rest = record {
    within = omega (arith, length-append history (new_commands (answer_to history letter ∷ rest)));
    reply = ap (λ h. answer rules h letter.command) (sym (take_seam history (new_commands (answer_to history letter ∷ rest))));
    stands = λ new. ap (λ b. slice_get (history ++ map (λ (a : Answer). a.letter.command) (cond b (answer_to history letter ∷ filter is_answer_new rest) (filter is_answer_new rest))) (length history)) new
        ∙ get_seam history (new_commands rest) letter.command;
  }

  pub judged_fit : (letters : List Letter) (history : List Command) → All (Fits rules (history ++ new_commands (judged rules history letters))) (judged rules history letters)
  judged_fit [] history = All-nil (Fits rules (history ++ []))
  judged_fit (letter ∷ letters) history =
      let rest : List Answer = judged rules (history_after rules history letter.command) letters in
      all_cons (Fits rules (history ++ new_commands (answer_to history letter ∷ rest))) (answer_to history letter) rest
      (first_fits history letter rest)
      (subst (λ seen. All (Fits rules seen) rest) (sym (accepted_first history letter rest)) (judged_fit letters (history_after rules history letter.command)))

  -- letters, and then more
  judged_then : (letters more : List Letter) (history : List Command)
      → judged rules history (letters ++ more) ≡ judged rules history letters ++ judged rules (history ++ new_commands (judged rules history letters)) more
  judged_then [] more history = ap (λ h. judged rules h more) (append_nil history)
  judged_then (letter ∷ letters) more history =
      let next : List Command = history_after rules history letter.command in
      let rest : List Answer = judged rules next letters in
      ap (λ answers. answer_to history letter ∷ answers)
      (judged_then letters more next ∙ ap (λ h. rest ++ judged rules h more) (sym (accepted_first history letter rest)))

  -- the replies are those to the commands
  judged_replies : (letters : List Letter) (history : List Command)
      → map (λ (a : Answer). a.reply) (judged rules history letters) ≡ replies_from rules (reverse history) (map (λ (l : Letter). l.command) letters)
  judged_replies [] history = refl
  judged_replies (letter ∷ letters) history =
      ap (λ rest. answer rules history letter.command ∷ rest)
      (judged_replies letters (history_after rules history letter.command)
      ∙ ap (λ past. replies_from rules past (map (λ (l : Letter). l.command) letters)) (reverse_history_after rules history letter.command))

  -- and so is the history after them
  judged_past : (letters : List Letter) (history : List Command)
      → reverse (history ++ new_commands (judged rules history letters)) ≡ past_from rules (reverse history) (map (λ (l : Letter). l.command) letters)
  judged_past [] history = ap reverse (sym (append_nil history))
  judged_past (letter ∷ letters) history =
      let next : List Command = history_after rules history letter.command in
      ap reverse (accepted_first history letter (judged rules next letters))
      ∙ judged_past letters next
      ∙ ap (λ past. past_from rules past (map (λ (l : Letter). l.command) letters)) (reverse_history_after rules history letter.command)

pub judged_join : JudgedJoin
judged_join rules history letters more = judged_then rules letters more history

pub judged_is_answered : JudgedIsAnswered
judged_is_answered rules history letters = (judged_replies rules letters history, judged_past rules letters history)
