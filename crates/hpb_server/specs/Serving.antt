-- The bytes that a session reads and writes, by the requests to its desk and the desk's states.
use Rattle.std.specs.Prelude.{◌≡◌, ℕ, ◌≤◌, true, false, ◌||◌, ◌==◌, List, [], ◌∷◌, ◌++◌, length, Option, Some, None, Result, Ok, Err, if◌then◌else◌, ⊤, ◌⊎◌}
use Rattle.std.specs.List.{slice_split}
use Rattle.std.specs.Io.KnownBytes.{Appends, Consumes, IsAtEnd}
use Rattle.hpb_rules.specs.declared.refusal.Refusal.{Refusal}
use Rattle.hpb_rules.specs.declared.command.Command.{Command}
use Rattle.hpb_rules.specs.declared.reply.Reply.{Reply}
use Rattle.hpb_rules.specs.Fronts.{IsFront}
use Rattle.hpb_rules.specs.AuctionValue.{AuctionValue}
use Rattle.hpb_rules.specs.declared.request.Request.{Request}
use Rattle.hpb_rules.specs.declared.request.Request.TheVariants as requests
use Rattle.hpb_rules.specs.Lines.{request_of, is_line_feed}
use Rattle.hpb_rules.specs.Rendering.{refusal_text, reply_text}
use Rattle.hpb_rules.specs.Text.{line_of, unfinished_text}
use Rattle.hpb_rules.specs.ValueText.{shown_in, node_shown_in, bidder_shown_in}
use Rattle.hpb_server.specs.declared.fault.SessionFault.{SessionFault}
use Rattle.hpb_server.specs.declared.fault.SessionFault.TheVariants.{Memory, Reader}
use Rattle.hpb_server.specs.Fault.{IsLeft}
use Rattle.hpb_server.specs.Reading.{most_taken, HasNoEnd}
use Rattle.hpb_server.specs.Streams.{Streams, AreKept}
use Rattle.hpb_server.specs.declared.input.TheConstants.{LINE_FEED}
use Rattle.hpb_rules.specs.declared.refusal.Refusal.TheVariants as refusals
use Rattle.hpb_server.specs.Ways.{Ways}

-- **Desk.** A session asks its desk. A desk has states, and its ways say what it may reply and show at each (`Ways`).
-- Definitions stand in a section over the ways. The last ones also stand in a section over the start of a session. It
-- has the unread bytes, the budget of bytes that may be read, the streams, and the states before and after.
--
-- The view of a desk's auction, or the reply that it can show none any more.
abbrev pub shown_by : (AuctionValue → List ℕ) → Option AuctionValue → List ℕ
shown_by how None = refusal_text refusals.Failed
shown_by how (Some value) = how value

-- Bytes that are whole lines: none, or the last of them ends a line.
abbrev pub AreLines : List ℕ → Type 0
AreLines bytes = (bytes ≡ []) ⊎ ((front : List ℕ) × (bytes ≡ front ++ LINE_FEED ∷ []))

-- A question is answered from the auction that the desk shows.
abbrev pub AnswersLook : {State : Type 0} → Ways State → (AuctionValue → List ℕ) → State → List ℕ → State → Type 0
AnswersLook ways how old answer new = (shown : Option AuctionValue) × ways.looks old shown new × (answer ≡ shown_by how shown)

-- Each state of a desk has the rules that lines are read by. When asked for a command, the desk replies and goes to
-- another state. A look shows its auction, and may bring it to another state, too.
module _ {State : Type 0} (ways : Ways State) where
  -- A request, or a refused line, gets this answer.
  abbrev pub AnswersRequest : State → Result Request Refusal → List ℕ → State → Type 0
  AnswersRequest old (Err refusal) answer new = (new ≡ old) × (answer ≡ refusal_text refusal)
  AnswersRequest old (Ok (requests.Command asked)) answer new = (reply : Reply) × ways.asks old asked reply new × (answer ≡ reply_text reply)
  AnswersRequest old (Ok requests.Show) answer new = AnswersLook ways shown_in old answer new
  AnswersRequest old (Ok (requests.Node place)) answer new = AnswersLook ways (λ value. node_shown_in value place) old answer new
  AnswersRequest old (Ok (requests.Who from)) answer new = AnswersLook ways (λ value. bidder_shown_in value from) old answer new

  -- A line gets this answer.
  abbrev pub AnswersLine : State → List ℕ → List ℕ → State → Type 0
  AnswersLine old line answer new = AnswersRequest old (request_of (ways.rules old) line) answer new

  -- Each line gets one answer, in order, and none once the session is over. A last line without an end is refused, if
  -- it has a byte.
  abbrev pub AnswersLines : State → List (List ℕ) → List ℕ → State → Type 0
  AnswersLines old [] text new = (new ≡ old) × (text ≡ [])
  AnswersLines old (last ∷ []) text new = (new ≡ old) × (text ≡ (if (length last == 0) || ways.over old then [] else unfinished_text))
  AnswersLines old (line ∷ following ∷ more) text new =
      ((ways.over old ≡ true) × (new ≡ old) × (text ≡ []))
      ⊎ ((ways.over old ≡ false) × (answer rest : List ℕ) × (next : State) × AnswersLine old line answer next × AnswersLines next (following ∷ more) rest new × (text ≡ line_of answer ++ rest))

  -- An input gets this text.
  abbrev pub AnswersInput : State → List ℕ → List ℕ → State → Type 0
  AnswersInput old input text new = AnswersLines old (slice_split is_line_feed input) text new

  module _ (unread : List ℕ) (budget : ℕ) (before after : Streams) (old new : State) where
    -- All was read and answered, within the budget, to the end of the reader or of the session.
    pub record AnswersAll : Type 0 where
      pub taken : List ℕ
      pub text : List ℕ
      pub read : Consumes before.remaining after.remaining taken
      pub ended : IsAtEnd after.remaining ⊎ (ways.over new ≡ true)
      pub within : length taken ≤ budget
      pub answers : AnswersInput old (unread ++ taken) text new
      pub written : Appends before.contents after.contents text

    -- Whole lines that were read were answered, or all that the reader had. A front of the answers was written, as much
    -- as the fault leaves. If the reader failed, no line was left unanswered.
    pub record AnswersFront (fault : SessionFault) : Type 0 where
      pub taken : List ℕ
      pub done : List ℕ
      pub rest : List ℕ
      pub text : List ℕ
      pub sent : List ℕ
      pub read : Consumes before.remaining after.remaining taken
      pub within : length taken ≤ most_taken budget
      pub parts : unread ++ taken ≡ done ++ rest
      pub whole : AreLines done ⊎ ((rest ≡ []) × IsAtEnd after.remaining)
      pub answers : AnswersInput old done text new
      pub written : Appends before.contents after.contents sent
      pub front : IsFront sent text
      pub left : IsLeft ways.most ways.takes_memory fault front.0
      pub no_line : fault ≡ Reader → length taken ≤ budget → HasNoEnd rest

    -- Nothing was read, asked or written, because memory was refused at the start.
    abbrev pub NeverBegins : SessionFault → Type 0
    NeverBegins fault = (fault ≡ Memory) × AreKept before after × (new ≡ old)

    -- The session with the unread bytes and all that come after them.
    abbrev pub Serves : Result ⊤ SessionFault → Type 0
    Serves (Ok done) = AnswersAll
    Serves (Err fault) = NeverBegins fault ⊎ AnswersFront fault
