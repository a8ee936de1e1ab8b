-- How far a session has come, chunk by chunk.
use Rattle.std.proofs.Common.{◌≡◌, ◌≢◌, ℕ, ◌+◌, ◌<◌, ◌≤◌, Bool, true, false, eqb, List, [], ◌∷◌, ◌++◌, length, take, Option, refl, sym, ap, ◌∙◌, subst, arith, append_assoc, append-nil, length-append, ⊎_elim, inl, inr}
use Rattle.std.specs.Prelude.{Result, Ok, Err, if◌then◌else◌, ⊤}
use Rattle.std.specs.Result.{IsErrAnd}
use Rattle.std.specs.Io.KnownBytes.{Appends, Consumes, IsAtEnd}
use Rattle.std.proofs.KnownBytes.{Appends-trans, Consumes-nil, Consumes-trans, Keeps-refl}
use Rattle.std.proofs.lemmas.Bool.{ne_eqb}
use Rattle.std.proofs.lemmas.List.{length-take}
use Rattle.hpb_rules.specs.declared.command.Command.{Command}
use Rattle.hpb_rules.specs.declared.reply.Reply.{Reply}
use Rattle.hpb_rules.specs.Tree.{Rules}
use Rattle.hpb_rules.specs.AuctionValue.{AuctionValue}
use Rattle.hpb_rules.specs.Text.{unfinished_text}
use Rattle.hpb_server.specs.declared.fault.SessionFault.{SessionFault}
use Rattle.hpb_server.specs.declared.fault.SessionFault.TheVariants.{Memory, Reader}
use Rattle.hpb_server.specs.declared.line.TheConstants.{KEPT_BYTES}
use Rattle.hpb_server.specs.Reading.{Pending, HasNoEnd, ReadsInVain, ReadsWithin}
use Rattle.hpb_server.specs.Streams.{Streams, streams}
use Rattle.hpb_server.specs.Serving.{AnswersInput, Serves}
use Rattle.hpb_server.specs.Session.{Ends, PassesLine, Session, Broken}
use Rattle.hpb_server.proofs.Errors.{err_case}
use Rattle.hpb_server.proofs.Passing.{left_weaker, memory_read}
use Rattle.hpb_server.proofs.Sessions.{session_begins, session_more, session_sent, session_read, session_stopped}
use Rattle.hpb_server.proofs.WholeLines.{lines_answered, last_answered, rest_answered}
use Rattle.hpb_server.proofs.Definitions.{vain_within}
use Rattle.hpb_server.specs.Ways.{Ways}

-- a line is empty if none of its bytes is kept
same_empty : (line bytes : List ℕ) → line ≡ take KEPT_BYTES bytes → eqb (length line) 0 ≡ eqb (length bytes) 0
same_empty line [] e = ap (λ (xs : List ℕ). eqb (length xs) 0) e
same_empty line (x ∷ bytes) e =
    ne_eqb (length line) 0 (λ z. absurd (omega (arith, z, ap length e, length-take KEPT_BYTES (x ∷ bytes))))
    ∙ sym (ne_eqb (length (x ∷ bytes)) 0 (λ z. absurd (omega (arith, z))))

module _ {State : Type 0} (ways : Ways State) where
  -- bytes were taken from the reader within the budget, and the session stands behind them
  pub record Comes (first : Pending) (before : Streams) (old : State) (now : Streams) (desk : State) (input : Pending) (line output : List ℕ) : Type 0 where
    pub taken : List ℕ
    pub read : Consumes before.remaining now.remaining taken
    pub within : length taken + input.budget ≡ first.budget
    pub session : Session ways (first.unread ++ taken) old desk before.contents now.contents [] line input.unread output

module _ {State : Type 0} {ways : Ways State} {first : Pending} {before : Streams} {old : State} where
  pub comes_begins : {line output : List ℕ} → line ≡ [] → output ≡ [] → Comes ways first before old before old first line output
  comes_begins {line = line} {output = output} none empty = record {
    taken = [];
    read = Consumes-nil before.remaining;
    within = omega arith;
    session = subst (λ (xs : List ℕ). Session ways xs old old before.contents before.contents [] line first.unread output) (sym (append-nil first.unread))
        (subst (λ (out : List ℕ). Session ways first.unread old old before.contents before.contents [] line first.unread out) (sym empty)
        (session_begins [] (λ k d h. absurd (omega arith)) none));
  }

  module _ {now : Streams} {desk : State} {input : Pending} {line output : List ℕ} (c : Comes ways first before old now desk input line output) where
    -- it is broken off after more was read in vain
    pub comes_broken : (after : Streams) (new : State) (fault : SessionFault) (vain : ReadsWithin now.remaining after.remaining input.budget)
        (b : Broken ways (first.unread ++ c.taken) old new before.contents after.contents [] fault)
        → (fault ≡ Reader → length (c.taken ++ vain.0) ≤ first.budget → HasNoEnd (b.rest ++ vain.0)) → Serves ways first.unread first.budget before after old new (Err fault)
    comes_broken after new fault vain b no_line = inr (record {
      taken = c.taken ++ vain.0;
      done = b.done;
      rest = b.rest ++ vain.0;
      text = b.text;
      sent = b.sent;
      read = Consumes-trans before.remaining now.remaining after.remaining c.taken vain.0 c.read vain.1;
      within = omega (arith, c.within, vain.2, length-append c.taken vain.0);
      parts = sym (append_assoc first.unread c.taken vain.0) ∙ ap (λ xs. xs ++ vain.0) b.parts ∙ append_assoc b.done b.rest vain.0;
      whole = inl b.leads.whole;
      answers = lines_answered b.leads;
      written = b.written;
      front = b.front;
      left = b.left;
      no_line = no_line;
    })

    -- it is broken off, and nothing more was read
    pub comes_stopped : (writer_new : Option (List ℕ)) (new : State) (fault : SessionFault) (r : Result ⊤ SessionFault) → IsErrAnd r (λ e. e ≡ fault) → fault ≢ Reader
        → Broken ways (first.unread ++ c.taken) old new before.contents writer_new [] fault → Serves ways first.unread first.budget before (streams now.remaining writer_new) old new r
    comes_stopped writer_new new fault r bad other b = err_case (Serves ways first.unread first.budget before (streams now.remaining writer_new) old new) r bad
        (λ e is. subst (λ (f : SessionFault). Serves ways first.unread first.budget before (streams now.remaining writer_new) old new (Err f)) (sym is)
        (comes_broken (streams now.remaining writer_new) new fault ([], Consumes-nil now.remaining, omega arith) b (λ read. absurd (other read))))

    -- the desk is refused memory after all was answered and written
    pub comes_refused : (writer_new : Option (List ℕ)) (new : State) {line_next unread_next output_next : List ℕ} (r : Result ⊤ SessionFault) → IsErrAnd r (λ e. e ≡ Memory) → ways.takes_memory ≡ true → output_next ≡ []
        → Session ways (first.unread ++ c.taken) old new before.contents writer_new [] line_next unread_next output_next → Serves ways first.unread first.budget before (streams now.remaining writer_new) old new r
    comes_refused writer_new new r bad takes empty s = comes_stopped writer_new new Memory r bad memory_read (session_stopped s Memory ([], omega arith, (λ none. takes), empty))

    -- the reader failed after all was answered and written, and no byte is unread
    pub comes_unread : (reader_new : Option (List ℕ)) (fault : SessionFault) (r : Result ⊤ SessionFault) → IsErrAnd r (λ e. e ≡ fault) → fault ≡ Reader → input.unread ≡ [] → output ≡ [] → ReadsInVain now.remaining reader_new input.budget
        → Serves ways first.unread first.budget before (streams reader_new now.contents) old desk r
    comes_unread reader_new fault r bad read none empty vain = err_case (Serves ways first.unread first.budget before (streams reader_new now.contents) old desk) r bad
        (λ e is. subst (λ (f : SessionFault). Serves ways first.unread first.budget before (streams reader_new now.contents) old desk (Err f)) (sym (is ∙ read))
        (comes_broken (streams reader_new now.contents) desk Reader (vain_within now.remaining reader_new input.budget vain) (session_stopped c.session Reader empty)
        (λ read within. ⊎_elim
        (λ nothing. subst (λ (xs : List ℕ). HasNoEnd (xs ++ vain.0)) (sym (ap (λ xs. c.session.rest ++ xs) none ∙ append-nil c.session.rest))
        (subst (λ (xs : List ℕ). HasNoEnd (c.session.rest ++ xs)) (sym nothing) (subst HasNoEnd (sym (append-nil c.session.rest)) c.session.no_end)))
        (λ more. absurd (omega (arith, within, c.within, more.0, more.1, length-append c.taken vain.0)))
        vain.2)))

    -- the unread bytes are answered, and all answers are written
    module _ {next : State} {writer_next : Option (List ℕ)} {line_next unread_next output_next output_sent : List ℕ}
        (t : Session ways (c.session.rest ++ input.unread) desk next now.contents writer_next output line_next unread_next output_next)
        (writer_sent : Option (List ℕ)) (w : Appends writer_next writer_sent output_next) (empty : output_sent ≡ []) where
      pub comes_session : Session ways (first.unread ++ c.taken) old next before.contents writer_sent [] line_next unread_next output_sent
      comes_session = session_sent (session_more c.session t) w empty

      -- another chunk is read
      pub comes_more : {chunk : Pending} {budget : ℕ} (reader_new : Option (List ℕ)) → unread_next ≡ [] → budget ≡ input.budget → Consumes now.remaining reader_new chunk.unread → chunk.budget + length chunk.unread ≡ budget
          → Comes ways first before old (streams reader_new writer_sent) next chunk line_next output_sent
      comes_more {chunk = chunk} reader_new none same h less = record {
        taken = c.taken ++ chunk.unread;
        read = Consumes-trans before.remaining now.remaining reader_new c.taken chunk.unread c.read h;
        within = omega (arith, c.within, same, less, length-append c.taken chunk.unread);
        session = subst (λ (xs : List ℕ). Session ways xs old next before.contents writer_sent [] line_next chunk.unread output_sent) (append_assoc first.unread c.taken chunk.unread)
            (session_read comes_session chunk.unread none);
      }

      -- the session behind that chunk
      pub comes_sent : (input_next : Pending) → unread_next ≡ input_next.unread → input_next.budget ≡ input.budget → Comes ways first before old (streams now.remaining writer_sent) next input_next line_next output_sent
      comes_sent input_next same kept = record {
        taken = c.taken;
        read = c.read;
        within = omega (arith, c.within, kept);
        session = subst (λ (xs : List ℕ). Session ways (first.unread ++ c.taken) old next before.contents writer_sent [] line_next xs output_sent) same comes_session;
      }

      abbrev last : Session ways (first.unread ++ c.taken) old next before.contents writer_sent [] line_next unread_next output_sent
      last = comes_session

      all_sent : last.text ≡ last.sent
      all_sent = last.owed ∙ ap (λ xs. last.sent ++ xs) empty ∙ append-nil last.sent

      -- the session is over
      pub comes_over : ways.over next ≡ true → Serves ways first.unread first.budget before (streams now.remaining writer_sent) old next (Ok tt)
      comes_over is = record {
        taken = c.taken;
        text = last.text;
        read = c.read;
        ended = inr is;
        within = omega (arith, c.within);
        answers = subst (λ (xs : List ℕ). AnswersInput ways old xs last.text next) (sym last.parts) (rest_answered last.leads (last.rest ++ unread_next) is);
        written = subst (Appends before.contents writer_sent) (sym all_sent) last.written;
      }

      -- the reader has ended
      module _ (goes : ways.over next ≡ false) (after : Streams) (none : unread_next ≡ []) (h : Consumes now.remaining after.remaining []) (ended : IsAtEnd after.remaining) where
        refused : List ℕ
        refused = if eqb (length last.rest) 0 then [] else unfinished_text

        no_more : last.rest ++ unread_next ≡ last.rest
        no_more = ap (λ xs. last.rest ++ xs) none ∙ append-nil last.rest

        read_all : Consumes before.remaining after.remaining c.taken
        read_all = subst (Consumes before.remaining after.remaining) (append-nil c.taken) (Consumes-trans before.remaining now.remaining after.remaining c.taken [] c.read h)

        answered_all : AnswersInput ways old (last.done ++ last.rest) (last.text ++ refused) next
        unfolding refused
        answered_all = last_answered last.leads last.rest last.no_end goes

        pub comes_ended : 0 < ways.most → (r : Result ⊤ SessionFault) → Ends writer_sent after.contents line_next r → Serves ways first.unread first.budget before after old next r
        unfolding refused
        comes_ended some r e = by r (subst (λ (b : Bool). PassesLine writer_sent after.contents (if b then [] else unfinished_text) [] r) (same_empty line_next last.rest last.kept) e)
          where
            by : (r : Result ⊤ SessionFault) → PassesLine writer_sent after.contents refused [] r → Serves ways first.unread first.budget before after old next r
            by (Ok done) s = record {
              taken = c.taken;
              text = last.text ++ refused;
              read = read_all;
              ended = inl ended;
              within = omega (arith, c.within);
              answers = subst (λ (xs : List ℕ). AnswersInput ways old xs (last.text ++ refused) next) (sym (last.parts ∙ ap (λ xs. last.done ++ xs) no_more)) answered_all;
              written = subst (λ (xs : List ℕ). Appends before.contents after.contents (last.text ++ xs)) (sym (s.2 ∙ append-nil s.0))
                  (subst (λ (xs : List ℕ). Appends before.contents after.contents (xs ++ s.0)) (sym all_sent) (Appends-trans before.contents writer_sent after.contents last.sent s.0 last.written s.1));
            }
            by (Err fault) s = inr (record {
              taken = c.taken;
              done = last.done ++ last.rest;
              rest = [];
              text = last.text ++ refused;
              sent = last.sent ++ s.1;
              read = read_all;
              within = omega (arith, c.within);
              parts = last.parts ∙ ap (λ xs. last.done ++ xs) no_more ∙ sym (append-nil (last.done ++ last.rest));
              whole = inr (refl, ended);
              answers = answered_all;
              written = Appends-trans before.contents writer_sent after.contents last.sent s.1 last.written s.2;
              front = (s.3.0, ap (λ xs. xs ++ refused) all_sent ∙ ap (λ xs. last.sent ++ xs) s.3.1 ∙ sym (append_assoc last.sent s.1 s.3.0));
              left = left_weaker ways.takes_memory fault s.3.0 (omega (arith, some)) s.4;
              no_line = λ read. absurd (s.0 read);
            })

-- nothing is read and nothing is written
pub never_served : {State : Type 0} (ways : Ways State)
    (first : Pending) (before : Streams) (old : State) (r : Result ⊤ SessionFault) → IsErrAnd r (λ e. e ≡ Memory) → Serves ways first.unread first.budget before before old old r
never_served ways first before old r bad = err_case (Serves ways first.unread first.budget before before old old) r bad
    (λ other is. inl (is, (Keeps-refl before.remaining, Keeps-refl before.contents), refl))
