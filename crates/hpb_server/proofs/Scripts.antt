-- The auction in memory: its answers are the text by its history.
use Rattle.std.proofs.Common.{◌≡◌, ℕ, ◌≤◌, Bool, true, false, List, [], ◌∷◌, ◌++◌, reverse, length, ◌==◌, sym, ap, ◌∙◌, subst, arith, append_assoc, append-nil, ⊎_elim, inl, inr, refl}
use Rattle.std.specs.Prelude.{Result, Ok, Err, if◌then◌else◌, ⊤}
use Rattle.std.specs.Io.KnownBytes.{Appends}
use Rattle.std.specs.List.{slice_split}
use Rattle.std.proofs.lemmas.List.{reverse-reverse}
use Rattle.hpb_rules.specs.declared.refusal.Refusal.{Refusal}
use Rattle.hpb_rules.specs.declared.command.Command.{Command}
use Rattle.hpb_rules.specs.Tree.{Rules}
use Rattle.hpb_rules.specs.Fronts.{IsFront}
use Rattle.hpb_rules.specs.AuctionValue.{AuctionValue, Shows, ShowsPast}
use Rattle.hpb_rules.specs.declared.request.Request.{Request}
use Rattle.hpb_rules.specs.declared.request.Request.TheVariants as requests
use Rattle.hpb_rules.specs.Lines.{request_of, is_line_feed}
use Rattle.hpb_rules.specs.Rendering.{reply_text}
use Rattle.hpb_rules.specs.Text.{line_of, lines_text, unfinished_text, state_after, next_past, past_after}
use Rattle.hpb_rules.specs.ValueText.{shown_in, node_shown_in, bidder_shown_in, response_in, value_after_request, lines_in}
use Rattle.hpb_rules.proofs.Lists.{front_trans, or_false}
use Rattle.hpb_rules.proofs.TextLaws.{lines_text_grows}
use Rattle.hpb_rules.proofs.RunLaws.{next_is_shown, text_is_shown}
use Rattle.hpb_server.specs.declared.input.TheConstants.{LINE_FEED}
use Rattle.hpb_rules.proofs.Judged.{next_rules}
use Rattle.hpb_server.specs.Desk.{rules_in, never_over, one_asked, no_memory, IsItself, Moves, RepliesIn, ShowsItself}
use Rattle.hpb_server.specs.declared.fault.SessionFault.{SessionFault}
use Rattle.hpb_server.specs.declared.fault.SessionFault.TheVariants.{Memory, Reader, Writer}
use Rattle.hpb_server.specs.Fault.{lines_of, IsLeft, IsLeftOfScript}
use Rattle.hpb_server.specs.Serving.{AreLines, shown_by, AnswersRequest, AnswersLines, Serves}
use Rattle.hpb_server.specs.Streams.{Streams}
use Rattle.hpb_server.specs.ScriptLaws.{InputIsText, ServesText, SessionIsText}
use Rattle.hpb_server.specs.AuctionDesk.{auction_ways}

-- ---- one request
abbrev Asked : AuctionValue → Result Request Refusal → List ℕ → AuctionValue → Type 0
Asked = AnswersRequest auction_ways

-- a request is answered by the value, which becomes the next value
answered : (request : Result Request Refusal) (old new : AuctionValue) (answer : List ℕ) → Asked old request answer new → (answer ≡ response_in old request) × (new ≡ value_after_request old request)
answered (Err refusal) old new answer h = (h.1, h.0)
answered (Ok (requests.Command asked)) old new answer h = (h.2 ∙ ap reply_text h.1.0, h.1.1)
answered (Ok requests.Show) old new answer h = (h.2 ∙ ap (shown_by shown_in) h.1.0, h.1.1)
answered (Ok (requests.Node place)) old new answer h = (h.2 ∙ ap (shown_by (λ value. node_shown_in value place)) h.1.0, h.1.1)
answered (Ok (requests.Who from)) old new answer h = (h.2 ∙ ap (shown_by (λ value. bidder_shown_in value from)) h.1.0, h.1.1)

-- ---- lines
abbrev Lines : AuctionValue → List (List ℕ) → List ℕ → AuctionValue → Type 0
Lines = AnswersLines auction_ways

-- it never ends a session
pub never : false ≡ true → ⊥
never e = absurd (let no : false ≡ true = e in cc)

pub lines_written : (lines : List (List ℕ)) (old new : AuctionValue) (text : List ℕ) → Lines old lines text new → text ≡ lines_in old lines
lines_written [] old new text h = h.1
lines_written (last ∷ []) old new text h = h.1 ∙ ap (λ (b : Bool). if b then [] else unfinished_text) (or_false (length last == 0))
lines_written (line ∷ following ∷ more) old new text (inl ended) = absurd (never ended.0)
lines_written (line ∷ following ∷ more) old new text (inr goes) =
    let a : (goes.1 ≡ response_in old (request_of old.rules line)) × (goes.3 ≡ value_after_request old (request_of old.rules line)) = answered (request_of old.rules line) old goes.3 goes.1 goes.4 in
    goes.6
    ∙ ap (λ xs. line_of xs ++ goes.2) a.0
    ∙ ap (λ xs. line_of (response_in old (request_of old.rules line)) ++ xs) (lines_written (following ∷ more) goes.3 new goes.2 goes.5 ∙ ap (λ (v : AuctionValue). lines_in v (following ∷ more)) a.1)

-- ---- the definition and the history that it then shows
request_rules : (value : AuctionValue) (request : Result Request Refusal) → (value_after_request value request).rules ≡ value.rules
request_rules value (Err refusal) = refl
request_rules value (Ok requests.Show) = refl
request_rules value (Ok (requests.Node place)) = refl
request_rules value (Ok (requests.Who from)) = refl
request_rules value (Ok (requests.Command asked)) = next_rules value asked

request_shown : (value : AuctionValue) (past : List Command) (request : Result Request Refusal) → ShowsPast value past → ShowsPast (value_after_request value request) (past_after value.rules past request)
request_shown value past (Err refusal) s = s
request_shown value past (Ok (requests.Command asked)) s = next_is_shown value past asked s
request_shown value past (Ok requests.Show) s = s
request_shown value past (Ok (requests.Node place)) s = s
request_shown value past (Ok (requests.Who from)) s = s

lines_shown : (lines : List (List ℕ)) (old new : AuctionValue) (text : List ℕ) (past : List Command) → ShowsPast old past → Lines old lines text new → ShowsPast new (state_after (next_past old.rules) past lines)
lines_shown [] old new text past s h = subst (λ (v : AuctionValue). ShowsPast v past) (sym h.0) s
lines_shown (last ∷ []) old new text past s h = subst (λ (v : AuctionValue). ShowsPast v past) (sym h.0) s
lines_shown (line ∷ following ∷ more) old new text past s (inl ended) = absurd (never ended.0)
lines_shown (line ∷ following ∷ more) old new text past s (inr goes) =
    let request = request_of old.rules line in
    let is : goes.3 ≡ value_after_request old request = (answered request old goes.3 goes.1 goes.4).1 in
    let shows : ShowsPast goes.3 (past_after old.rules past request) = subst (λ (v : AuctionValue). ShowsPast v (past_after old.rules past request)) (sym is) (request_shown old past request s) in
    let rules : goes.3.rules ≡ old.rules = ap (λ (v : AuctionValue). v.rules) is ∙ request_rules old request in
    subst (λ (r : Rules). ShowsPast new (state_after (next_past r) (past_after old.rules past request) (following ∷ more))) rules
    (lines_shown (following ∷ more) goes.3 new goes.2 (past_after old.rules past request) shows goes.5)

pub input_is_text : InputIsText
input_is_text old new history input text shows h = (
  lines_written (slice_split is_line_feed input) old new text h ∙ text_is_shown old (reverse history) input shows,
  subst (ShowsPast new) (sym (reverse-reverse (state_after (next_past old.rules) (reverse history) (slice_split is_line_feed input)))) (lines_shown (slice_split is_line_feed input) old new text (reverse history) shows h),
)

-- ---- sessions
-- the text of whole lines is a front of the text of these and more
pub lines_front : (rules : Rules) (history : List Command) (done rest : List ℕ) → AreLines done → IsFront (lines_text rules history done) (lines_text rules history (done ++ rest))
lines_front rules history done rest whole = ⊎_elim
    (λ none. subst (λ (xs : List ℕ). IsFront (lines_text rules history xs) (lines_text rules history (xs ++ rest))) (sym none) (lines_text rules history rest, refl))
    (λ some. subst (λ (xs : List ℕ). IsFront (lines_text rules history xs) (lines_text rules history (xs ++ rest))) (sym some.1)
    (subst (λ (xs : List ℕ). IsFront (lines_text rules history (some.0 ++ LINE_FEED ∷ [])) (lines_text rules history xs)) (sym (append_assoc some.0 (LINE_FEED ∷ []) rest)) (lines_text_grows rules history some.0 rest)))
    whole

-- a session leaves at most the last line unwritten
pub last_left : (fault : SessionFault) (left : List ℕ) → IsLeft one_asked no_memory fault left → IsLeftOfScript fault left
last_left Reader left h = h
last_left Writer left h = h
last_left Memory left h = by h.0 h.1 h.2 h.3
  where
    by : (answers : List (List ℕ)) → length answers ≤ one_asked → (answers ≡ [] → no_memory ≡ true) → left ≡ lines_of answers → IsLeftOfScript Memory left
    by [] within some is = absurd (never (some refl))
    by (answer ∷ []) within some is = (answer, is ∙ append-nil (line_of answer))
    by (answer ∷ other ∷ more) within some is = absurd (omega (arith, within))

pub session_is_text : SessionIsText
session_is_text budget before after old new history (Ok done) shows s =
    let is = input_is_text old new history s.taken s.text shows s.answers in
    record {
      input = s.taken;
      read = s.read;
      ended = ⊎_elim (λ end. end) (λ ended. absurd (never ended)) s.ended;
      within = s.within;
      written = subst (Appends before.contents after.contents) is.0 s.written;
      shows = is.1;
    }
session_is_text budget before after old new history (Err fault) shows (inl never) = inl (never.0, never.1, subst (λ (v : AuctionValue). Shows v history) (sym never.2) shows)
session_is_text budget before after old new history (Err fault) shows (inr s) =
    let is = input_is_text old new history s.done s.text shows s.answers in
    let text : s.text ≡ lines_text old.rules history s.done = is.0 in
    let so_far : s.text ≡ s.sent ++ s.front.0 = s.front.1 in
    let all : IsFront (lines_text old.rules history s.done) (lines_text old.rules history (s.done ++ s.rest)) = ⊎_elim
    (λ whole. lines_front old.rules history s.done s.rest whole)
    (λ end. ([], ap (lines_text old.rules history) (ap (λ xs. s.done ++ xs) end.0 ∙ append-nil s.done) ∙ sym (append-nil (lines_text old.rules history s.done))))
    s.whole in
    inr (record {
      taken = s.taken;
      done = s.done;
      rest = s.rest;
      sent = s.sent;
      read = s.read;
      within = s.within;
      parts = s.parts;
      whole = s.whole;
      written = s.written;
      so_far = (s.front.0, sym text ∙ so_far);
      left = last_left fault s.front.0 s.left;
      no_line = s.no_line;
      front = subst (λ (xs : List ℕ). IsFront s.sent (lines_text old.rules history xs)) (sym s.parts) (front_trans s.sent (lines_text old.rules history s.done) (lines_text old.rules history (s.done ++ s.rest)) (s.front.0, sym text ∙ so_far) all);
      shows = is.1;
    })

-- so does a session that is described by the states of its desk
pub moved_is_text : (budget : ℕ) (before after : Streams) (old new : AuctionValue) (history : List Command) (result : Result ⊤ SessionFault)
    → Shows old history → Moves IsItself old new (λ state next. Serves auction_ways [] budget before after state next result)
    → ServesText old.rules history budget before after new result
moved_is_text budget before after old new history result shows moves =
    let served = moves old refl in
    subst (λ (v : AuctionValue). ServesText old.rules history budget before after v result) served.2 (session_is_text budget before after old served.0 history result shows served.1)
