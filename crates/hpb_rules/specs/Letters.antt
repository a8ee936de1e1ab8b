-- Answers to letters: the lists of accepted commands that they fit, the answer to each letter after those before it,
-- and the commands that answers accept. Source: this project's own.
use Rattle.std.specs.Prelude.{◌≡◌, ◌≤◌, Bool, true, List, [], ◌∷◌, map, filter, take, Some, length, slice_get}
use Rattle.hpb_rules.specs.declared.command.Command.{Command}
use Rattle.hpb_rules.specs.declared.letter.Answer.{Answer}
use Rattle.hpb_rules.specs.declared.letter.Letter.{Letter}
use Rattle.hpb_rules.specs.Tree.{Rules}
use Rattle.hpb_rules.specs.Answer.{answer, is_reply_new, history_after}

-- An answer fits a list of accepted commands if it is the answer after the commands that were accepted before it. If it
-- newly accepts a command, that stands behind these in the list.
pub record Fits (rules : Rules) (seen : List Command) (answered : Answer) : Type 0 where
  pub within : answered.at ≤ length seen
  pub reply : answered.reply ≡ answer rules (take answered.at seen) answered.letter.command
  pub stands : is_reply_new answered.at answered.reply ≡ true → slice_get seen answered.at ≡ Some answered.letter.command

-- **Letter, answer, fits.** A letter is a command from a seat, a client's place from 0 to 31. An answer is a letter
-- with its reply and the number of commands accepted before it; both are types of the code. Letters that come together
-- are answered one after another, each after the history with the commands that those before it have added.
--
-- The answers to letters one after another, each judged after the commands accepted before it.
abbrev pub judged : Rules → List Command → List Letter → List Answer
judged rules history [] = []
judged rules history (letter ∷ letters) =
    record { letter = letter; at = length history; reply = answer rules history letter.command } ∷ judged rules (history_after rules history letter.command) letters

-- Whether an answer newly accepts its command.
abbrev pub is_answer_new : Answer → Bool
is_answer_new answered = is_reply_new answered.at answered.reply

-- The commands that answers newly accept, in order.
abbrev pub new_commands : List Answer → List Command
new_commands answers = map (λ (answered : Answer). answered.letter.command) (filter is_answer_new answers)
