-- The laws of the auction in memory: its answers are the text by its history.
use Rattle.std.specs.Prelude.{◌≡◌, ℕ, ◌≤◌, ◌⊎◌, List, [], ◌++◌, length, Result, Ok, Err, ⊤}
use Rattle.std.specs.Io.KnownBytes.{Appends, Consumes, IsAtEnd}
use Rattle.hpb_rules.specs.declared.command.Command.{Command}
use Rattle.hpb_rules.specs.Tree.{Rules}
use Rattle.hpb_rules.specs.Fronts.{IsFront}
use Rattle.hpb_rules.specs.AuctionValue.{AuctionValue, Shows}
use Rattle.hpb_rules.specs.Text.{lines_text, history_after_lines}
use Rattle.hpb_server.specs.declared.fault.SessionFault.{SessionFault}
use Rattle.hpb_server.specs.declared.fault.SessionFault.TheVariants.{Memory, Reader}
use Rattle.hpb_server.specs.Fault.{IsLeftOfScript}
use Rattle.hpb_server.specs.Reading.{most_taken, HasNoEnd}
use Rattle.hpb_server.specs.Streams.{Streams, AreKept}
use Rattle.hpb_server.specs.Serving.{AreLines, AnswersInput, Serves}
use Rattle.hpb_server.specs.AuctionDesk.{auction_ways}

-- An auction in memory that shows a history answers an input with the text of lines after this history. It then shows
-- the history that the input leads to.
abbrev pub InputIsText : Type 0
InputIsText = (old new : AuctionValue) (history : List Command) (input text : List ℕ)
    → Shows old history → AnswersInput auction_ways old input text new
    → (text ≡ lines_text old.rules history input) × Shows new (history_after_lines old.rules history input)

module _ (rules : Rules) (history : List Command) (budget : ℕ) (before after : Streams) (new : AuctionValue) where
  -- The first three definitions stand in a section over the rules, the history, the bytes that may be read, the streams
  -- before and after, and the value at the end.
  --
  -- All was read, to the end of the reader, and its text after a history was written. The auction shows the history
  -- that the input leads to.
  pub record WritesText : Type 0 where
    pub input : List ℕ
    pub read : Consumes before.remaining after.remaining input
    pub ended : IsAtEnd after.remaining
    pub within : length input ≤ budget
    pub written : Appends before.contents after.contents (lines_text rules history input)
    pub shows : Shows new (history_after_lines rules history input)

  -- Whole lines that were read were answered, or all that the reader had. A front of their text was written, as much as
  -- the fault leaves, and the auction shows the history that they lead to. It is a front of the text of all bytes read,
  -- too. If the reader failed, no line was left unanswered.
  pub record WritesFront (fault : SessionFault) : Type 0 where
    pub taken : List ℕ
    pub done : List ℕ
    pub rest : List ℕ
    pub sent : List ℕ
    pub read : Consumes before.remaining after.remaining taken
    pub within : length taken ≤ most_taken budget
    pub parts : taken ≡ done ++ rest
    pub whole : AreLines done ⊎ ((rest ≡ []) × IsAtEnd after.remaining)
    pub written : Appends before.contents after.contents sent
    pub so_far : IsFront sent (lines_text rules history done)
    pub left : IsLeftOfScript fault so_far.0
    pub no_line : fault ≡ Reader → length taken ≤ budget → HasNoEnd rest
    pub front : IsFront sent (lines_text rules history taken)
    pub shows : Shows new (history_after_lines rules history done)

  -- The text that a session writes for an auction in memory that showed a history, and the history that the auction
  -- shows then. Memory may be refused at the start.
  abbrev pub ServesText : Result ⊤ SessionFault → Type 0
  ServesText (Ok done) = WritesText
  ServesText (Err fault) = ((fault ≡ Memory) × AreKept before after × Shows new history) ⊎ WritesFront fault

-- A session with an auction in memory that shows a history answers all that it reads, with the text of lines after this
-- history. At a fault a front of that text is written, as much as the fault leaves.
abbrev pub SessionIsText : Type 0
SessionIsText = (budget : ℕ) (before after : Streams) (old new : AuctionValue) (history : List Command) (result : Result ⊤ SessionFault)
    → Shows old history → Serves auction_ways [] budget before after old new result
    → ServesText old.rules history budget before after new result
