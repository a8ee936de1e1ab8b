-- The laws of lines and of texts.
use Rattle.std.specs.Prelude.{◌≡◌, ℕ, ◌^◌, ◌<◌, ◌≤◌, ◌↔◌, List, [], ◌∷◌, ◌++◌, length, decimal, Some, None, Result, Ok}
use Rattle.hpb_rules.specs.declared.command.Command.{Command}
use Rattle.hpb_rules.specs.declared.refusal.Refusal.{Refusal}
use Rattle.hpb_rules.specs.declared.request.Request.{Request}
use Rattle.hpb_rules.specs.Tree.{Rules}
use Rattle.hpb_rules.specs.Answer.{IsHistory}
use Rattle.hpb_rules.specs.Laws.{HoldsAlone}
use Rattle.hpb_rules.specs.Drafts.{draft_refusal}
use Rattle.hpb_rules.specs.Fronts.{IsFront}
use Rattle.hpb_rules.specs.Lines.{Spelled, spelled, line_spelling, IsSpellable, IsSpellableName, line_feed, number_up_to, node_named, bidder_named, request_of}
use Rattle.hpb_rules.specs.RequestLines.{request_line, CanBeAsked}
use Rattle.hpb_rules.specs.Text.{lines_text, history_after_lines, IsText, script_text, node_name, bidder_name}

-- The text of whole lines with more behind them is the text of the lines, and then that of the rest after the history
-- that they lead to.
abbrev pub LinesTextJoins : Type 0
LinesTextJoins = (rules : Rules) (history : List Command) (front rest : List ℕ)
    → let lines = front ++ line_feed ∷ [] in
    lines_text rules history (lines ++ rest) ≡ lines_text rules history lines ++ lines_text rules (history_after_lines rules history lines) rest

-- Lines lead from a history to a history that continues it.
abbrev pub LinesKeepHistory : Type 0
LinesKeepHistory = (rules : Rules) (history : List Command) (input : List ℕ) → IsHistory rules history
    → IsHistory rules (history_after_lines rules history input) × IsFront history (history_after_lines rules history input)

-- If the reading is a function, a script has exactly one text, the computed one.
abbrev pub ScriptTextIsOne : Type 0
ScriptTextIsOne = (define : List ℕ → Result Rules Refusal) (input : List ℕ) → HoldsAlone (IsText (λ line reading. define line ≡ reading) input) (script_text define input)

-- The text of whole lines of a script is a front of the text of these lines with more behind them.
abbrev pub ScriptTextGrows : Type 0
ScriptTextGrows = (define : List ℕ → Result Rules Refusal) (front rest : List ℕ)
    → IsFront (script_text define (front ++ line_feed ∷ [])) (script_text define (front ++ line_feed ∷ rest))

-- A line spells a value exactly if it is the spelling of that value, and a line can spell the value.
abbrev pub SpellingIsOne : Type 0
SpellingIsOne = (line : List ℕ) (value : Spelled) → (spelled line ≡ Some value) ↔ ((line ≡ line_spelling value) × IsSpellable value)

-- In a definition that isn't refused each name can stand in a line, and is found at its own place.
abbrev pub NamesAreFound : Type 0
NamesAreFound = (rules : Rules) (place : ℕ) → draft_refusal rules ≡ None
    → (place < length rules.nodes → IsSpellableName (node_name rules.nodes place) × (node_named rules (node_name rules.nodes place) ≡ Some place))
    × (place < length rules.bidders → IsSpellableName (bidder_name rules.bidders place) × (bidder_named rules (bidder_name rules.bidders place) ≡ Some place))

-- A word is a number, up to a greatest of 64 bits, exactly if it is the number's decimal.
abbrev pub NumberIsOne : Type 0
NumberIsOne = (most number : ℕ) (word : List ℕ) → most < 2 ^ 64 → (number_up_to most word ≡ Some number) ↔ ((number ≤ most) × (word ≡ decimal number))

-- Under a definition that isn't refused a line asks for a request exactly if it is the line of that request, and the
-- request can be asked.
abbrev pub RequestIsOne : Type 0
RequestIsOne = (rules : Rules) (line : List ℕ) (request : Request) → draft_refusal rules ≡ None
    → (request_of rules line ≡ Ok request) ↔ (CanBeAsked rules request × (line ≡ request_line rules request))
