-- How far a session has come: the terms of private clauses.
use Rattle.std.specs.Prelude.{◌≡◌, ◌≢◌, ◌⊎◌, ℕ, ◌==◌, Bool, true, false, List, [], ◌∷◌, ◌++◌, length, map, take, Option, Result, Ok, Err, OnOk, if◌then◌else◌, ⊤}
use Rattle.std.specs.Io.KnownBytes.{Appends}
use Rattle.hpb_rules.specs.declared.refusal.Refusal.{Refusal}
use Rattle.hpb_rules.specs.declared.command.Command.{Command}
use Rattle.hpb_rules.specs.declared.reply.Reply.{Reply}
use Rattle.hpb_rules.specs.Fronts.{IsFront}
use Rattle.hpb_rules.specs.AuctionValue.{AuctionValue}
use Rattle.hpb_rules.specs.declared.request.Request.{Request}
use Rattle.hpb_rules.specs.declared.request.Request.TheVariants as requests
use Rattle.hpb_rules.specs.Rendering.{reply_text}
use Rattle.hpb_rules.specs.Text.{line_of, unfinished_text}
use Rattle.hpb_rules.specs.ValueText.{shown_in, node_shown_in, bidder_shown_in}
use Rattle.hpb_wire.specs.Responses.{Adds}
use Rattle.hpb_server.specs.declared.fault.SessionFault.{SessionFault}
use Rattle.hpb_server.specs.declared.fault.SessionFault.TheVariants.{Reader}
use Rattle.hpb_server.specs.Fault.{IsLeft, lines_of}
use Rattle.hpb_server.specs.declared.line.TheConstants.{KEPT_BYTES}
use Rattle.hpb_server.specs.Reading.{HasNoEnd}
use Rattle.hpb_server.specs.Serving.{AreLines, AnswersRequest, AnswersInput}
use Rattle.hpb_server.specs.Ways.{Ways}

-- A front of the bytes was written, and the rest is left. Or, after a fault, a front was written, as much as the fault
-- leaves.
abbrev pub Passes : (most : ℕ) (takes_memory : Bool) (writer_old writer_new : Option (List ℕ)) (bytes left : List ℕ) → Result ⊤ SessionFault → Type 0
Passes most takes_memory writer_old writer_new bytes left (Ok done) = (sent : List ℕ) × Appends writer_old writer_new sent × (bytes ≡ sent ++ left)
Passes most takes_memory writer_old writer_new bytes left (Err fault) = (fault ≢ Reader) × (sent : List ℕ) × Appends writer_old writer_new sent × (front : IsFront sent bytes) × IsLeft most takes_memory fault front.0

-- The same for one line, which is left if memory was refused for it.
abbrev pub PassesLine : (writer_old writer_new : Option (List ℕ)) (bytes left : List ℕ) → Result ⊤ SessionFault → Type 0
PassesLine writer_old writer_new bytes left result = Passes 1 false writer_old writer_new bytes left result

-- A last line was refused if it has a byte. Or, after a fault, a front of that answer was written, as much as the fault
-- leaves.
abbrev pub Ends : (writer_old writer_new : Option (List ℕ)) (line : List ℕ) → Result ⊤ SessionFault → Type 0
Ends writer_old writer_new line result = PassesLine writer_old writer_new (if length line == 0 then [] else unfinished_text) [] result

-- The text of replies.
abbrev pub replies_text : List Reply → List ℕ
replies_text replies = lines_of (map reply_text replies)

-- The requests of commands.
abbrev pub asked_for : List Command → List (Result Request Refusal)
asked_for commands = map (λ command. Ok (requests.Command command)) commands

-- A request that isn't a command: a question, or a refused line.
abbrev pub IsQuestion : Result Request Refusal → Type 0
IsQuestion (Ok (requests.Command command)) = ⊥
IsQuestion other = Unit {0}

-- The answer of an auction to a question.
abbrev pub view_in : Request → AuctionValue → List ℕ
view_in (requests.Command command) value = []
view_in requests.Show value = shown_in value
view_in (requests.Node place) value = node_shown_in value place
view_in (requests.Who from) value = bidder_shown_in value from

module _ {State : Type 0} (ways : Ways State) where
  -- A request, or a refused line, was answered, and its answer was added. If memory was refused, nothing was added.
  abbrev pub AddsAnswer : {E : Type 0} → State → Result Request Refusal → State → (output_old output_new : List ℕ) → Result ⊤ E → Type 0
  AddsAnswer old request new output_old output_new result = (answer : List ℕ) × AnswersRequest ways old request answer new × Adds output_old output_new answer result

  -- Requests were answered one after another, and none once the session is over. The definition stays.
  abbrev pub AnswersRequests : State → List (Result Request Refusal) → List ℕ → State → Type 0
  AnswersRequests old [] text new = (new ≡ old) × (text ≡ [])
  AnswersRequests old (request ∷ more) text new =
      ((ways.over old ≡ true) × (new ≡ old) × (text ≡ []))
      ⊎ ((ways.over old ≡ false) × (answer rest : List ℕ) × (next : State) × (ways.rules next ≡ ways.rules old) × AnswersRequest ways old request answer next × AnswersRequests next more rest new × (text ≡ line_of answer ++ rest))

  -- The first of these requests were answered, and the others wait: they are the commands of the queue. A front of the
  -- output with the answers was written, and the rest is in the output. If the session is broken off, a front was
  -- written.
  pub record PassesRequests (old : State) (asked : List (Result Request Refusal)) (new : State) (writer_old writer_new : Option (List ℕ)) (output_old output_new : List ℕ) (queue : List Command) (result : Result ⊤ SessionFault) : Type 0 where
    pub answered : List (Result Request Refusal)
    pub waiting : List (Result Request Refusal)
    pub text : List ℕ
    pub parts : asked ≡ answered ++ waiting
    pub answers : AnswersRequests old answered text new
    pub passes : Passes ways.most ways.takes_memory writer_old writer_new (output_old ++ text) output_new result
    pub queued : OnOk result (waiting ≡ asked_for queue)

  -- Whole lines were answered, and anything after them is answered from this state on.
  pub record Leads (old : State) (done text : List ℕ) (now : State) : Type 0 where
    pub whole : AreLines done
    pub goes_on : (more rest : List ℕ) (end : State) → AnswersInput ways now more rest end → AnswersInput ways old (done ++ more) (text ++ rest) end

  module _ (start : List ℕ) (old now : State) (writer_old writer_now : Option (List ℕ)) (output_old : List ℕ) where
    -- Of the bytes at the start, whole lines are answered, some bytes of one more line are taken, and the rest is
    -- unread. The unwritten answers are in the output.
    pub record Session (line unread output_now : List ℕ) : Type 0 where
      pub done : List ℕ
      pub rest : List ℕ
      pub text : List ℕ
      pub sent : List ℕ
      pub leads : Leads old done text now
      pub no_end : HasNoEnd rest
      pub kept : line ≡ take KEPT_BYTES rest
      pub parts : start ≡ done ++ (rest ++ unread)
      pub written : Appends writer_old writer_now sent
      pub owed : output_old ++ text ≡ sent ++ output_now

    -- Whole lines were answered, and a front of their answers is written, as much as the fault leaves.
    pub record Broken (fault : SessionFault) : Type 0 where
      pub done : List ℕ
      pub rest : List ℕ
      pub text : List ℕ
      pub sent : List ℕ
      pub leads : Leads old done text now
      pub parts : start ≡ done ++ rest
      pub written : Appends writer_old writer_now sent
      pub front : IsFront sent (output_old ++ text)
      pub left : IsLeft ways.most ways.takes_memory fault front.0

    -- The session goes on, or it is broken off.
    abbrev pub Proceeds : (line unread output_now : List ℕ) → Result ⊤ SessionFault → Type 0
    Proceeds line unread output_now (Ok done) = Session line unread output_now
    Proceeds line unread output_now (Err fault) = (fault ≢ Reader) × Broken fault
