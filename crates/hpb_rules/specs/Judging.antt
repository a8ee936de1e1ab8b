-- The answers of a value to letters one after another, without a history. Source: this project's own. A law says that
-- they are the answers by the history.
use Rattle.std.specs.Prelude.{List, [], ◌∷◌, fold, map}
use Rattle.hpb_rules.specs.declared.letter.Answer.{Answer}
use Rattle.hpb_rules.specs.declared.letter.Letter.{Letter}
use Rattle.hpb_rules.specs.AuctionValue.{AuctionValue}
use Rattle.hpb_rules.specs.Values.{reply_in, next_value}

-- The answer of a value to a letter: its reply, and how many commands were accepted before.
abbrev pub answer_in : AuctionValue → Letter → Answer
answer_in value letter = record { letter = letter; at = value.count; reply = reply_in value letter.command }

-- The answers of a value to letters one after another: each letter is judged by the value after those before it.
abbrev pub judged_in : AuctionValue → List Letter → List Answer
judged_in value [] = []
judged_in value (letter ∷ letters) = answer_in value letter ∷ judged_in (next_value value letter.command) letters

-- The value of an auction after a letter.
abbrev pub after_letter : AuctionValue → Letter → AuctionValue
after_letter value letter = next_value value letter.command

-- The value of an auction after letters: each is judged by the value after those before it.
abbrev pub value_by : AuctionValue → List Letter → AuctionValue
value_by value letters = fold after_letter value letters

-- The letters of answers.
abbrev pub letters_of : List Answer → List Letter
letters_of answers = map (λ (answered : Answer). answered.letter) answers
