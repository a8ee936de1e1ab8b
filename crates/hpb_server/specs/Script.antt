-- The bytes that a script reads and writes: its first line is a definition, and each line after it gets its answer.
use Rattle.std.specs.Prelude.{◌≡◌, ℕ, ◌<◌, ◌≤◌, List, [], ◌∷◌, ◌++◌, length, Option, Result, Ok, Err, ⊤, ◌⊎◌}
use Rattle.std.specs.Io.KnownBytes.{Appends, Consumes, IsAtEnd}
use Rattle.hpb_rules.specs.declared.limits.TheConstants.{MOST_DEFINITION_BYTES, MOST_READ_BYTES}
use Rattle.hpb_rules.specs.declared.refusal.Refusal.{Refusal}
use Rattle.hpb_rules.specs.Tree.{Rules}
use Rattle.hpb_rules.specs.Fronts.{IsFront}
use Rattle.hpb_rules.specs.AuctionValue.{AuctionValue}
use Rattle.hpb_rules.specs.Rendering.{refusal_text}
use Rattle.hpb_rules.specs.Text.{line_of, IsText}
use Rattle.hpb_define.specs.declared.fault.DefineCause.{DefineCause}
use Rattle.hpb_define.specs.declared.fault.DefineCause.TheVariants.{Memory}
use Rattle.hpb_define.specs.Fault.{refusal_of}
use Rattle.hpb_define.specs.Text.{Answers}
use Rattle.hpb_server.specs.declared.fault.SessionFault.{SessionFault}
use Rattle.hpb_server.specs.declared.fault.SessionFault.TheVariants as faults
use Rattle.hpb_server.specs.declared.fault.SessionFault.TheVariants.{Reader}
use Rattle.hpb_server.specs.Fault.{IsLeftOfScript}
use Rattle.hpb_server.specs.declared.input.TheConstants.{LINE_FEED}
use Rattle.hpb_server.specs.declared.script.ScriptEnd.{ScriptEnd}
use Rattle.hpb_server.specs.declared.script.ScriptEnd.TheVariants.{Answered, Refused}
use Rattle.hpb_server.specs.Reading.{HasNoEnd, Pending, most_taken, ReadsWithin}
use Rattle.hpb_server.specs.Streams.{Streams}
use Rattle.hpb_server.specs.Serving.{AreLines, Serves}
use Rattle.hpb_server.specs.AuctionDesk.{auction_ways}

-- The refusal that reports a fault of a definition. Refused memory is reported by none.
abbrev pub IsTold : DefineCause → Refusal → Type 0
IsTold Memory refusal = ⊥
IsTold fault refusal = refusal ≡ refusal_of fault

-- The reading of a first line: the definition that it spells, or its refusal. Refused memory is no reading.
abbrev pub ReadsFirst : List ℕ → Result Rules Refusal → Type 0
ReadsFirst line (Ok rules) = Answers line (Ok rules)
ReadsFirst line (Err refusal) = (fault : DefineCause) × Answers line (Err fault) × IsTold fault refusal

-- The text of a script, by the reading of its first line.
abbrev pub IsScriptText : (input text : List ℕ) → Type 0
IsScriptText input text = IsText ReadsFirst input text

module _ (before after : Streams) where
  -- The first line is a definition. All was read, to the end of the reader, and its text was written.
  pub record AnswersScript : Type 0 where
    pub input : List ℕ
    pub text : List ℕ
    pub rules : Rules
    pub is_text : IsScriptText input text
    pub accepted : is_text.reading ≡ Ok rules
    pub read : Consumes before.remaining after.remaining input
    pub ended : IsAtEnd after.remaining
    pub within : length input ≤ MOST_READ_BYTES
    pub written : Appends before.contents after.contents text

  -- The first line is refused as a definition, so the text is the line of that refusal. It was read to its end, to the
  -- end of the reader, or so far that it is too long.
  pub record RefusesScript (refusal : Refusal) : Type 0 where
    pub taken : List ℕ
    pub is_text : IsScriptText taken (line_of (refusal_text refusal))
    pub refused : is_text.reading ≡ Err refusal
    pub read : Consumes before.remaining after.remaining taken
    pub within : length taken ≤ MOST_READ_BYTES
    pub ends : ((rest : List ℕ) × (taken ≡ is_text.first ++ LINE_FEED ∷ rest)) ⊎ ((taken ≡ is_text.first) × ((MOST_DEFINITION_BYTES < length is_text.first) ⊎ IsAtEnd after.remaining))

  -- The refusal of the first line was written, or a front of it.
  pub record RefusesFront : Type 0 where
    pub refusal : Refusal
    pub sent : List ℕ
    pub refuses : RefusesScript refusal
    pub written : Appends before.contents after.contents sent
    pub front : IsFront sent (line_of (refusal_text refusal))

  -- The first line is a definition. Whole lines that were read were answered, or all that the reader had. A front of
  -- their text was written, as much as the fault leaves. It is a front of the text of all bytes read, too. If the
  -- reader failed, no line was left unanswered.
  pub record AnswersScriptFront (fault : SessionFault) : Type 0 where
    pub taken : List ℕ
    pub answered : List ℕ
    pub rest : List ℕ
    pub so_far : List ℕ
    pub text : List ℕ
    pub sent : List ℕ
    pub rules : Rules
    pub read : Consumes before.remaining after.remaining taken
    pub within : length taken ≤ most_taken MOST_READ_BYTES
    pub parts : taken ≡ answered ++ rest
    pub whole : AreLines answered ⊎ ((rest ≡ []) × IsAtEnd after.remaining)
    pub is_so_far : IsScriptText answered so_far
    pub is_text : IsScriptText taken text
    pub accepted : is_text.reading ≡ Ok rules
    pub written : Appends before.contents after.contents sent
    pub front_so_far : IsFront sent so_far
    pub left : IsLeftOfScript fault front_so_far.0
    pub no_line : fault ≡ Reader → length taken ≤ MOST_READ_BYTES → HasNoEnd rest
    pub front : IsFront sent text

  -- Nothing was written.
  abbrev pub WritesNothing : Type 0
  WritesNothing = ReadsWithin before.remaining after.remaining MOST_READ_BYTES × Appends before.contents after.contents []

  -- The bytes that a run of a script reads and writes.
  abbrev pub RunsScript : Result ScriptEnd SessionFault → Type 0
  RunsScript (Ok Answered) = AnswersScript
  RunsScript (Ok (Refused refusal)) = RefusesScript refusal × Appends before.contents after.contents (line_of (refusal_text refusal))
  RunsScript (Err faults.Memory) = WritesNothing ⊎ AnswersScriptFront faults.Memory
  RunsScript (Err faults.Reader) = WritesNothing ⊎ AnswersScriptFront faults.Reader
  RunsScript (Err faults.Writer) = RefusesFront ⊎ AnswersScriptFront faults.Writer

  -- The lines of a script are answered from this value on.
  abbrev pub ServesScript : Pending → AuctionValue → Result ⊤ SessionFault → Type 0
  ServesScript input value result = (new : AuctionValue) × Serves auction_ways input.unread input.budget before after value new result

-- The line of a refusal was written. If memory was refused, nothing was; if the writer failed, a front of it was.
abbrev pub WritesRefusal : (writer_old writer_new : Option (List ℕ)) (refusal : Refusal) → Result ScriptEnd SessionFault → Type 0
WritesRefusal writer_old writer_new refusal (Ok Answered) = ⊥
WritesRefusal writer_old writer_new refusal (Ok (Refused told)) = (told ≡ refusal) × Appends writer_old writer_new (line_of (refusal_text refusal))
WritesRefusal writer_old writer_new refusal (Err fault) =
    ((fault ≡ faults.Memory) × Appends writer_old writer_new []) ⊎ ((fault ≡ faults.Writer) × (sent : List ℕ) × Appends writer_old writer_new sent × IsFront sent (line_of (refusal_text refusal)))

-- The same, by the fault of a definition. If memory was refused, no line reports it.
abbrev pub Refuses : (writer_old writer_new : Option (List ℕ)) → DefineCause → Result ScriptEnd SessionFault → Type 0
Refuses writer_old writer_new fault (Ok Answered) = ⊥
Refuses writer_old writer_new fault (Ok (Refused refusal)) = IsTold fault refusal × Appends writer_old writer_new (line_of (refusal_text refusal))
Refuses writer_old writer_new fault (Err broken) =
    ((broken ≡ faults.Memory) × Appends writer_old writer_new [])
    ⊎ ((broken ≡ faults.Writer) × (refusal : Refusal) × (sent : List ℕ) × IsTold fault refusal × Appends writer_old writer_new sent × IsFront sent (line_of (refusal_text refusal)))
