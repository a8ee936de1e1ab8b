-- The laws of histories after commands, and of answers to letters.
use Rattle.std.specs.Prelude.{◌≡◌, List, ◌∷◌, [], ◌++◌, map, reverse, length, if◌then◌else◌}
use Rattle.hpb_rules.specs.declared.command.Command.{Command}
use Rattle.hpb_rules.specs.declared.letter.Answer.{Answer}
use Rattle.hpb_rules.specs.declared.letter.Letter.{Letter}
use Rattle.hpb_rules.specs.Tree.{Rules}
use Rattle.hpb_rules.specs.Answer.{answer, is_reply_new, history_after, replies_from, past_from}
use Rattle.hpb_rules.specs.AuctionValue.{AuctionValue, Shows}
use Rattle.hpb_rules.specs.Judging.{judged_in}
use Rattle.hpb_rules.specs.Letters.{Fits, judged, new_commands}

-- The history after a command is the history with the command at its end if that is newly accepted, else the history as
-- it was.
abbrev pub HistoryAfterAppends : Type 0
HistoryAfterAppends = (rules : Rules) (history : List Command) (command : Command)
    → history_after rules history command ≡ (if is_reply_new (length history) (answer rules history command) then history ++ command ∷ [] else history)

-- An answer that fits a list of accepted commands fits each longer list that begins with it.
abbrev pub FitsGrow : Type 0
FitsGrow = (rules : Rules) (seen more : List Command) (answered : Answer) → Fits rules seen answered → Fits rules (seen ++ more) answered

-- Letters followed by more get the answers of the letters, and then those of the others after the history with the
-- commands that the first answers accept.
abbrev pub JudgedJoin : Type 0
JudgedJoin = (rules : Rules) (history : List Command) (letters more : List Letter)
    → judged rules history (letters ++ more) ≡ judged rules history letters ++ judged rules (history ++ new_commands (judged rules history letters)) more

-- Letters get the replies that their commands get one after another. The history with the commands that their answers
-- accept is the history after these commands.
abbrev pub JudgedIsAnswered : Type 0
JudgedIsAnswered = (rules : Rules) (history : List Command) (letters : List Letter)
    → (map (λ (answered : Answer). answered.reply) (judged rules history letters) ≡ replies_from rules (reverse history) (map (λ (letter : Letter). letter.command) letters))
    × (reverse (history ++ new_commands (judged rules history letters)) ≡ past_from rules (reverse history) (map (λ (letter : Letter). letter.command) letters))

-- A value answers letters as each history that it shows does.
abbrev pub JudgedIsShown : Type 0
JudgedIsShown = (value : AuctionValue) (history : List Command) (letters : List Letter) → Shows value history
    → judged_in value letters ≡ judged value.rules history letters
