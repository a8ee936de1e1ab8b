-- Lines whose commands wait to be asked, and their answers, line by line.
use Rattle.std.proofs.Common.{◌≡◌, ℕ, ◌<◌, ◌≤◌, Bool, true, false, List, [], ◌∷◌, ◌++◌, length, take, Option, refl, sym, ap, ◌∙◌, subst, arith, append_assoc, append-nil, inl, inr}
use Rattle.std.specs.Prelude.{Result, Ok, Err, OnOk, ⊤}
use Rattle.std.specs.Result.{IsErrAnd, IsOk}
use Rattle.std.specs.Io.KnownBytes.{Appends}
use Rattle.std.proofs.KnownBytes.{Appends-nil, Appends-trans}
use Rattle.std.proofs.lemmas.List.{map-append}
use Rattle.std.proofs.lemmas.List.Elements.{All-append}
use Rattle.hpb_rules.specs.declared.refusal.Refusal.{Refusal}
use Rattle.hpb_rules.specs.declared.command.Command.{Command}
use Rattle.hpb_rules.specs.declared.reply.Reply.{Reply}
use Rattle.hpb_rules.specs.declared.request.Request.{Request}
use Rattle.hpb_rules.specs.declared.request.Request.TheVariants as requests
use Rattle.hpb_rules.specs.Tree.{Rules}
use Rattle.hpb_rules.specs.AuctionValue.{AuctionValue}
use Rattle.hpb_rules.specs.Lines.{request_of, is_line_feed}
use Rattle.hpb_rules.specs.Rendering.{reply_text}
use Rattle.hpb_rules.specs.Text.{line_of}
use Rattle.hpb_rules.proofs.TextLaws.{request_of_front}
use Rattle.hpb_server.specs.declared.fault.SessionFault.{SessionFault}
use Rattle.hpb_server.specs.declared.input.TheConstants.{LINE_FEED}
use Rattle.hpb_server.specs.declared.line.TheConstants.{KEPT_BYTES}
use Rattle.hpb_server.specs.Desk.{AsksAll}
use Rattle.hpb_server.specs.Fault.{lines_of}
use Rattle.hpb_server.specs.Reading.{Pending, HasNoEnd, TakesToEnd, TakesAll}
use Rattle.hpb_server.specs.Serving.{AnswersRequest}
use Rattle.hpb_server.specs.Session.{asked_for, replies_text, AnswersRequests, Broken, Leads, Passes, PassesLine, PassesRequests, Proceeds, Session}
use Rattle.hpb_server.proofs.Definitions.{take-take-append}
use Rattle.hpb_server.proofs.Errors.{err_case, err_only, ok_case}
use Rattle.hpb_server.proofs.Passing.{first_fails, lines_append, passes_first, passes_weaker}
use Rattle.hpb_server.proofs.WholeLines.{leads_none, leads_append, leads_line, leads_over}
use Rattle.hpb_server.specs.Ways.{Ways}

-- each line spells its request
abbrev pub Spell : Rules → List (List ℕ) → List (Result Request Refusal) → Type 0
Spell rules [] [] = ⊤
Spell rules (line ∷ lines) (request ∷ requests) = HasNoEnd line × (request_of rules line ≡ request) × Spell rules lines requests
Spell rules [] (request ∷ requests) = ⊥
Spell rules (line ∷ lines) [] = ⊥

pub spell_append : (rules : Rules) (lines more : List (List ℕ)) (requests others : List (Result Request Refusal)) → Spell rules lines requests → Spell rules more others → Spell rules (lines ++ more) (requests ++ others)
spell_append rules [] more [] others s t = t
spell_append rules (line ∷ lines) more (request ∷ requests) others s t = (s.0, s.1, spell_append rules lines more requests others s.2 t)
spell_append rules [] more (request ∷ requests) others s t = absurd s
spell_append rules (line ∷ lines) more [] others s t = absurd s

-- the lines of the first requests, and those of the others
pub spell_split : (rules : Rules) (lines : List (List ℕ)) (requests others : List (Result Request Refusal)) → Spell rules lines (requests ++ others)
    → (front behind : List (List ℕ)) × (lines ≡ front ++ behind) × Spell rules front requests × Spell rules behind others
spell_split rules lines [] others s = ([], lines, refl, tt, s)
spell_split rules [] (request ∷ requests) others s = absurd s
spell_split rules (line ∷ lines) (request ∷ requests) others s =
    let t = spell_split rules lines requests others s.2 in
    (line ∷ t.0, t.1, ap (λ xs. line ∷ xs) t.2, (s.0, s.1, t.3), t.4)

-- one command more waits
pub waits_more_in : (old new : List Command) (command : Command) {E : Type 0} (r : Result ⊤ E) → IsOk r → OnOk r (new ≡ old ++ command ∷ []) → asked_for old ++ Ok (requests.Command command) ∷ [] ≡ asked_for new
waits_more_in old new command (Ok done) room pushed = sym (ap asked_for pushed ∙ map-append _ old (command ∷ []))
waits_more_in old new command (Err error) room pushed = absurd (let no : false ≡ true = room in cc)

-- ---- the bytes written before requests are asked
module _ {State : Type 0} (ways : Ways State) {state : State} {asked : List (Result Request Refusal)} {old now : Option (List ℕ)} {bytes : List ℕ} where
  -- nothing is asked
  pub none_asked : {left : List ℕ} {queue : List Command} (r : Result ⊤ SessionFault) → Passes ways.most ways.takes_memory old now (bytes ++ []) left r → OnOk r (asked ≡ asked_for queue)
      → PassesRequests ways state asked state old now bytes left queue r
  none_asked r p waits = record { answered = []; waiting = asked; text = []; parts = refl; answers = (refl, refl); passes = p; queued = waits }

  -- nothing is asked because the writer failed
  pub not_asked : (output : List ℕ) {left : List ℕ} {queue : List Command} (fault : SessionFault) (r : Result ⊤ SessionFault) → IsErrAnd r (λ e. e ≡ fault) → Passes 0 false old now bytes output (Err fault)
      → PassesRequests ways state asked state old now bytes left queue r
  not_asked output {left = left} fault r bad p = none_asked r (first_fails ways.most ways.takes_memory old now bytes output left fault r bad p) (err_only _ _ r bad)

  pub sent_first : (output : List ℕ) {next : State} {new : Option (List ℕ)} {left : List ℕ} {queue : List Command} (r : Result ⊤ SessionFault) → Passes 0 false old now bytes output (Ok tt)
      → PassesRequests ways state asked next now new output left queue r → PassesRequests ways state asked next old new bytes left queue r
  sent_first output {new = new} {left = left} r first p = record {
    answered = p.answered;
    waiting = p.waiting;
    text = p.text;
    parts = p.parts;
    answers = p.answers;
    passes = passes_first ways.most ways.takes_memory old now new bytes output p.text left r first p.passes;
    queued = p.queued;
  }

-- ---- requests answered one after another
module _ {State : Type 0} (ways : Ways State) where
  abbrev Answers : State → List (Result Request Refusal) → List ℕ → State → Type 0
  Answers = AnswersRequests ways

  -- nothing is answered once the session is over
  over_requests : (d e : State) (requests : List (Result Request Refusal)) (text : List ℕ) → ways.over d ≡ true → Answers d requests text e → (e ≡ d) × (text ≡ [])
  over_requests d e [] text is h = h
  over_requests d e (request ∷ more) text is (inl ended) = (ended.1, ended.2)
  over_requests d e (request ∷ more) text is (inr goes) = absurd (let no : true ≡ false = sym is ∙ goes.0 in cc)

  pub requests_join : (a b c : State) (requests more : List (Result Request Refusal)) (text rest : List ℕ) → Answers a requests text b → Answers b more rest c → Answers a (requests ++ more) (text ++ rest) c
  requests_join a b c [] more text rest h k =
      subst (λ (xs : List ℕ). Answers a more (xs ++ rest) c) (sym h.1) (subst (λ (d : State). Answers d more rest c) h.0 k)
  requests_join a b c (request ∷ requests) more text rest (inl ended) k =
      let none = over_requests a c more rest ended.0 (subst (λ (d : State). Answers d more rest c) ended.1 k) in
      inl (ended.0, none.0, ap (λ xs. xs ++ rest) ended.2 ∙ none.1)
  requests_join a b c (request ∷ requests) more text rest (inr goes) k =
      inr (
        goes.0,
        goes.1,
        goes.2 ++ rest,
        goes.3,
        goes.4,
        goes.5,
        requests_join goes.3 b c requests more goes.2 rest goes.6 k,
        ap (λ xs. xs ++ rest) goes.7 ∙ append_assoc (line_of goes.1) goes.2 rest,
      )

  -- one more is answered
  pub request_answered : (a b : State) (request : Result Request Refusal) (answer : List ℕ) → ways.over a ≡ false → ways.rules b ≡ ways.rules a → AnswersRequest ways a request answer b → Answers a (request ∷ []) (line_of answer) b
  request_answered a b request answer goes stays h = inr (goes, answer, [], b, stays, h, (refl, refl), sym (append-nil (line_of answer)))

  -- a command asked by itself is passed
  pub command_passed : (a b : State) (command : Command) (reply : Reply) → ways.over a ≡ false → ways.rules b ≡ ways.rules a → ways.asks a command reply b
      → {writer_old writer_new : Option (List ℕ)} (output left : List ℕ) (r : Result ⊤ SessionFault) → PassesLine writer_old writer_new (output ++ line_of (reply_text reply)) left r
      → PassesRequests ways a (Ok (requests.Command command) ∷ []) b writer_old writer_new output left [] r
  command_passed a b command reply goes stays asked output left r p = record {
    answered = Ok (requests.Command command) ∷ [];
    waiting = [];
    text = line_of (reply_text reply);
    parts = refl;
    answers = request_answered a b (Ok (requests.Command command)) (reply_text reply) goes stays (reply, asked, refl);
    passes = passes_weaker ways.takes_memory _ _ _ _ r (omega (arith, ways.most_is_some.0)) p;
    queued = ok_case r refl;
  }

  -- commands asked together are answered one after another
  pub queue_answered : (old new : State) (commands : List Command) (replies : List Reply) → AsksAll ways old commands replies new → Answers old (asked_for commands) (replies_text replies) new
  queue_answered old new [] replies h = (h.0, ap replies_text h.1)
  queue_answered old new (command ∷ more) replies (inl ended) = inl (ended.0, ended.1, ap replies_text ended.2)
  queue_answered old new (command ∷ more) replies (inr goes) =
      inr (goes.0, reply_text goes.1, replies_text goes.2, goes.3, ways.rules_stay old goes.3 command goes.1 goes.4, (goes.1, goes.4, refl), queue_answered goes.3 new more goes.2 goes.5, ap replies_text goes.6)

  -- there is at most one reply for each
  pub fewer_replies : (old new : State) (commands : List Command) (replies : List Reply) → AsksAll ways old commands replies new → length replies ≤ length commands
  fewer_replies old new [] replies h = omega (arith, ap length h.1)
  fewer_replies old new (command ∷ more) replies (inl ended) = omega (arith, ap length ended.2)
  fewer_replies old new (command ∷ more) replies (inr goes) = omega (arith, ap length goes.6, fewer_replies goes.3 new more goes.2 goes.5)

  -- lines that spell requests get the answers to these, line by line
  pub requests_lead : (old new : State) (lines : List (List ℕ)) (requests : List (Result Request Refusal)) (text : List ℕ) → Spell (ways.rules old) lines requests → Answers old requests text new → Leads ways old (lines_of lines) text new
  requests_lead old new [] [] text s h =
      subst (λ (d : State). Leads ways old [] text d) (sym h.0) (subst (λ (xs : List ℕ). Leads ways old [] xs old) (sym h.1) (leads_none old))
  requests_lead old new (line ∷ lines) (request ∷ requests) text s (inl ended) =
      subst (λ (d : State). Leads ways old (lines_of (line ∷ lines)) text d) (sym ended.1)
      (subst (λ (xs : List ℕ). Leads ways old (lines_of (line ∷ lines)) xs old) (sym ended.2) (leads_over old (line ∷ lines) ended.0))
  requests_lead old new (line ∷ lines) (request ∷ requests) text s (inr goes) =
      let first : Leads ways old (line_of line) (line_of goes.1) goes.3
      = leads_line old goes.3 line goes.1 s.0 goes.0 (subst (λ (asked : Result Request Refusal). AnswersRequest ways old asked goes.1 goes.3) (sym s.1) goes.5) in
      let others : Leads ways goes.3 (lines_of lines) goes.2 new
      = requests_lead goes.3 new lines requests goes.2 (subst (λ (r : Rules). Spell r lines requests) (sym goes.4) s.2) goes.6 in
      subst (λ (xs : List ℕ). Leads ways old (lines_of (line ∷ lines)) xs new) (sym goes.7) (leads_append first others)
  requests_lead old new [] (request ∷ requests) text s h = absurd s
  requests_lead old new (line ∷ lines) [] text s h = absurd s

  -- ---- a front of requests is passed
  module _ {old next : State} {asked : List (Result Request Refusal)} {writer_old writer_now : Option (List ℕ)} {output_old output_now : List ℕ} {queue : List Command} where
    -- if the session is broken off, the requests behind them are left
    pub passes_fewer : (more : List (Result Request Refusal)) (fault : SessionFault) (r : Result ⊤ SessionFault) → IsErrAnd r (λ e. e ≡ fault) → PassesRequests ways old asked next writer_old writer_now output_old output_now queue (Err fault)
        → PassesRequests ways old (asked ++ more) next writer_old writer_now output_old output_now queue r
    passes_fewer more fault r bad p = err_case (PassesRequests ways old (asked ++ more) next writer_old writer_now output_old output_now queue) r bad
        (λ other is. subst (λ (f : SessionFault). PassesRequests ways old (asked ++ more) next writer_old writer_now output_old output_now queue (Err f)) (sym is) (record {
          answered = p.answered;
          waiting = p.waiting ++ more;
          text = p.text;
          parts = ap (λ xs. xs ++ more) p.parts ∙ append_assoc p.answered p.waiting more;
          answers = p.answers;
          passes = p.passes;
          queued = tt;
        }))

    -- a question behind them is passed, too
    pub passes_question : (new : State) (writer_new : Option (List ℕ)) (output_new : List ℕ) (question : Result Request Refusal) (text : List ℕ) (r : Result ⊤ SessionFault) → PassesRequests ways old asked next writer_old writer_now output_old output_now queue (Ok tt) → queue ≡ []
        → Answers next (question ∷ []) text new → Passes ways.most ways.takes_memory writer_now writer_new (output_now ++ text) output_new r
        → PassesRequests ways old (asked ++ question ∷ []) new writer_old writer_new output_old output_new queue r
    passes_question new writer_new output_new question text r p none h q = record {
      answered = p.answered ++ question ∷ [];
      waiting = [];
      text = p.text ++ text;
      parts = ap (λ xs. xs ++ question ∷ []) (p.parts ∙ ap (λ xs. p.answered ++ xs) (p.queued ∙ ap asked_for none) ∙ append-nil p.answered) ∙ sym (append-nil (p.answered ++ question ∷ []));
      answers = requests_join old next new p.answered (question ∷ []) p.text text p.answers h;
      passes = both r q;
      queued = ok_case r (sym (ap asked_for none));
    }
      where
        owed : (sent left : List ℕ) → output_now ++ text ≡ sent ++ left → output_old ++ (p.text ++ text) ≡ (p.passes.0 ++ sent) ++ left
        owed sent left e = sym (append_assoc output_old p.text text) ∙ ap (λ xs. xs ++ text) p.passes.2 ∙ append_assoc p.passes.0 output_now text ∙ ap (λ xs. p.passes.0 ++ xs) e ∙ sym (append_assoc p.passes.0 sent left)

        both : (r : Result ⊤ SessionFault) → Passes ways.most ways.takes_memory writer_now writer_new (output_now ++ text) output_new r → Passes ways.most ways.takes_memory writer_old writer_new (output_old ++ (p.text ++ text)) output_new r
        both (Ok done) q = (p.passes.0 ++ q.0, Appends-trans writer_old writer_now writer_new p.passes.0 q.0 p.passes.1 q.1, owed q.0 output_new q.2)
        both (Err fault) q = (q.0, p.passes.0 ++ q.1, Appends-trans writer_old writer_now writer_new p.passes.0 q.1 p.passes.1 q.2, (q.3.0, owed q.1 q.3.0 q.3.1), q.4)

  -- ---- the state of a session while lines wait
  module _ (start : List ℕ) (old now : State) (writer_old writer_now : Option (List ℕ)) (output_old : List ℕ) where
    -- whole lines are answered, and the lines after them spell these requests; the unwritten answers are in the output
    pub record Waits (requests : List (Result Request Refusal)) (behind output_now : List ℕ) : Type 0 where
      pub done : List ℕ
      pub lines : List (List ℕ)
      pub text : List ℕ
      pub sent : List ℕ
      pub leads : Leads ways old done text now
      pub spell : Spell (ways.rules now) lines requests
      pub parts : start ≡ done ++ (lines_of lines ++ behind)
      pub written : Appends writer_old writer_now sent
      pub owed : output_old ++ text ≡ sent ++ output_now

    -- the same in the middle of one more line
    pub record Queues (line : List ℕ) (queue : List Command) (unread output_now : List ℕ) : Type 0 where
      pub rest : List ℕ
      pub no_end : HasNoEnd rest
      pub kept : line ≡ take KEPT_BYTES rest
      pub waits : Waits (asked_for queue) (rest ++ unread) output_now

module _ {State : Type 0} {ways : Ways State} where
  pub queues_begin : (partial : List ℕ) {line unread output : List ℕ} {queue : List Command} {desk : State} {writer : Option (List ℕ)} → HasNoEnd partial → line ≡ take KEPT_BYTES partial → queue ≡ []
      → Queues ways (partial ++ unread) desk desk writer writer output line queue unread output
  queues_begin partial {output = output} {queue = queue} {desk = desk} {writer = writer} no_end kept none = record {
    rest = partial;
    no_end = no_end;
    kept = kept;
    waits = record {
      done = [];
      lines = [];
      text = [];
      sent = [];
      leads = leads_none desk;
      spell = subst (λ (commands : List Command). Spell (ways.rules desk) [] (asked_for commands)) (sym none) tt;
      parts = refl;
      written = Appends-nil writer;
      owed = append-nil output;
    };
  }

  module _ {start : List ℕ} {old now : State} {writer_old writer_now : Option (List ℕ)} {output_old output behind : List ℕ} {requests : List (Result Request Refusal)}
      (w : Waits ways start old now writer_old writer_now output_old requests behind output) where
    -- one more line waits
    pub waits_more : {next : Result Request Refusal} → (line after : List ℕ) → HasNoEnd line → request_of (ways.rules now) line ≡ next → behind ≡ line ++ LINE_FEED ∷ after
        → Waits ways start old now writer_old writer_now output_old (requests ++ next ∷ []) after output
    waits_more line after no_end is parts = record {
      done = w.done;
      lines = w.lines ++ line ∷ [];
      text = w.text;
      sent = w.sent;
      leads = w.leads;
      spell = spell_append (ways.rules now) w.lines (line ∷ []) requests _ w.spell (no_end, is, tt);
      parts = w.parts ∙ ap (λ xs. w.done ++ xs) (ap (λ xs. lines_of w.lines ++ xs) (parts ∙ sym (append_assoc line (LINE_FEED ∷ []) after) ∙ ap (λ xs. xs ++ after) (sym (append-nil (line_of line))))
          ∙ sym (append_assoc (lines_of w.lines) (lines_of (line ∷ [])) after) ∙ ap (λ xs. xs ++ after) (sym (lines_append w.lines (line ∷ []))));
      written = w.written;
      owed = w.owed;
    }

    owed_after : (text sent left : List ℕ) → output ++ text ≡ sent ++ left → output_old ++ (w.text ++ text) ≡ (w.sent ++ sent) ++ left
    owed_after text sent left e = sym (append_assoc output_old w.text text) ∙ ap (λ xs. xs ++ text) w.owed ∙ append_assoc w.sent output text ∙ ap (λ xs. w.sent ++ xs) e ∙ sym (append_assoc w.sent sent left)

    parts_after : (front waiting : List (List ℕ)) → w.lines ≡ front ++ waiting → start ≡ (w.done ++ lines_of front) ++ (lines_of waiting ++ behind)
    parts_after front waiting e =
        w.parts ∙ ap (λ xs. w.done ++ xs) (ap (λ xs. xs ++ behind) (ap lines_of e ∙ lines_append front waiting) ∙ append_assoc (lines_of front) (lines_of waiting) behind)
        ∙ sym (append_assoc w.done (lines_of front) (lines_of waiting ++ behind))

    -- a front of the requests is answered
    module _ {next : State} {writer_new : Option (List ℕ)} {output_new : List ℕ} {queue : List Command} where
      -- the others wait
      pub waits_on : PassesRequests ways now requests next writer_now writer_new output output_new queue (Ok tt) → ways.rules next ≡ ways.rules now
          → Waits ways start old next writer_old writer_new output_old (asked_for queue) behind output_new
      waits_on p stays =
          let split = spell_split (ways.rules now) w.lines p.answered p.waiting (subst (Spell (ways.rules now) w.lines) p.parts w.spell) in
          record {
            done = w.done ++ lines_of split.0;
            lines = split.1;
            text = w.text ++ p.text;
            sent = w.sent ++ p.passes.0;
            leads = leads_append w.leads (requests_lead ways now next split.0 p.answered p.text split.3 p.answers);
            spell = subst (Spell (ways.rules next) split.1) p.queued (subst (λ (r : Rules). Spell r split.1 p.waiting) (sym stays) split.4);
            parts = parts_after split.0 split.1 split.2;
            written = Appends-trans writer_old writer_now writer_new w.sent p.passes.0 w.written p.passes.1;
            owed = owed_after p.text p.passes.0 output_new p.passes.2;
          }

      -- the session is broken off
      pub waits_broken : (fault : SessionFault) → PassesRequests ways now requests next writer_now writer_new output output_new queue (Err fault)
          → Broken ways start old next writer_old writer_new output_old fault
      waits_broken fault p =
          let split = spell_split (ways.rules now) w.lines p.answered p.waiting (subst (Spell (ways.rules now) w.lines) p.parts w.spell) in
          record {
            done = w.done ++ lines_of split.0;
            rest = lines_of split.1 ++ behind;
            text = w.text ++ p.text;
            sent = w.sent ++ p.passes.1;
            leads = leads_append w.leads (requests_lead ways now next split.0 p.answered p.text split.3 p.answers);
            parts = parts_after split.0 split.1 split.2;
            written = Appends-trans writer_old writer_now writer_new w.sent p.passes.1 w.written p.passes.2;
            front = (p.passes.3.0, owed_after p.text p.passes.1 p.passes.3.0 p.passes.3.1);
            left = p.passes.4;
          }

  -- ---- in the middle of a line
  module _ {start : List ℕ} {old now : State} {writer_old writer_now : Option (List ℕ)} {output_old output line : List ℕ} {queue : List Command} where
    -- nothing waits
    pub queues_session : {unread : List ℕ} → Queues ways start old now writer_old writer_now output_old line queue unread output → queue ≡ []
        → Session ways start old now writer_old writer_now output_old line unread output
    queues_session {unread = unread} q none = record {
      done = q.waits.done;
      rest = q.rest;
      text = q.waits.text;
      sent = q.waits.sent;
      leads = q.waits.leads;
      no_end = q.no_end;
      kept = q.kept;
      parts = q.waits.parts ∙ ap (λ xs. q.waits.done ++ (lines_of xs ++ (q.rest ++ unread))) (no_lines q.waits.lines (subst (λ (commands : List Command). Spell (ways.rules now) q.waits.lines (asked_for commands)) none q.waits.spell));
      written = q.waits.written;
      owed = q.waits.owed;
    }
      where
        no_lines : (lines : List (List ℕ)) → Spell (ways.rules now) lines [] → lines ≡ []
        no_lines [] s = refl
        no_lines (line ∷ lines) s = absurd s

  module _ {start : List ℕ} {old now : State} {writer_old writer_now : Option (List ℕ)} {output_old output line : List ℕ} {queue : List Command} where
    -- the line ends, and waits like the others
    pub queues_line : {before after : Pending} {taken : List ℕ} → Queues ways start old now writer_old writer_now output_old line queue before.unread output
        → TakesToEnd KEPT_BYTES before after line taken → (read_by : Rules) → ways.rules now ≡ read_by → (request : Result Request Refusal) → request ≡ request_of read_by taken
        → Waits ways start old now writer_old writer_now output_old (asked_for queue ++ request ∷ []) after.unread output
    queues_line {after = after} {taken = taken} q part read_by are request heard =
        let kept = part.kept ∙ ap (λ xs. take KEPT_BYTES (xs ++ part.bytes)) q.kept ∙ take-take-append KEPT_BYTES q.rest part.bytes in
        waits_more q.waits (q.rest ++ part.bytes) after.unread (All-append (λ b. is_line_feed b ≡ false) q.rest part.bytes q.no_end part.no_end)
        (sym (request_of_front (ways.rules now) (q.rest ++ part.bytes)) ∙ ap (request_of (ways.rules now)) (sym kept) ∙ ap (λ (r : Rules). request_of r taken) are ∙ sym heard)
        (ap (λ xs. q.rest ++ xs) part.parts ∙ sym (append_assoc q.rest part.bytes (LINE_FEED ∷ after.unread)))

    -- it does not end
    pub queues_ended : {before after : Pending} {taken : List ℕ} → Queues ways start old now writer_old writer_now output_old line queue before.unread output
        → TakesAll KEPT_BYTES before after line taken → Queues ways start old now writer_old writer_now output_old taken queue after.unread output
    queues_ended {before = before} q part = record {
      rest = q.rest ++ before.unread;
      no_end = All-append (λ b. is_line_feed b ≡ false) q.rest before.unread q.no_end part.no_end;
      kept = part.kept ∙ ap (λ xs. take KEPT_BYTES (xs ++ before.unread)) q.kept ∙ take-take-append KEPT_BYTES q.rest before.unread;
      waits = subst (λ (xs : List ℕ). Waits ways start old now writer_old writer_now output_old (asked_for queue) xs output)
          (sym (ap (λ xs. (q.rest ++ before.unread) ++ xs) part.taken ∙ append-nil (q.rest ++ before.unread))) q.waits;
    }

    -- all that waits is asked
    pub queues_asked : {next : State} {writer_new : Option (List ℕ)} {unread output_new : List ℕ} {queue_new : List Command} (r : Result ⊤ SessionFault) → Queues ways start old now writer_old writer_now output_old line queue unread output
        → PassesRequests ways now (asked_for queue) next writer_now writer_new output output_new queue_new r → ways.rules next ≡ ways.rules now → OnOk r (queue_new ≡ [])
        → Proceeds ways start old next writer_old writer_new output_old line unread output_new r
    queues_asked (Ok done) q p stays none = queues_session (record { rest = q.rest; no_end = q.no_end; kept = q.kept; waits = waits_on q.waits p stays }) none
    queues_asked (Err fault) q p stays none = (p.passes.0, waits_broken q.waits fault p)

    -- no byte of a line is taken
    pub queues_between : {unread : List ℕ} → Waits ways start old now writer_old writer_now output_old (asked_for queue) unread output → line ≡ []
        → Queues ways start old now writer_old writer_now output_old line queue unread output
    queues_between w none = record { rest = []; no_end = λ k d h. absurd (omega arith); kept = none; waits = w }
