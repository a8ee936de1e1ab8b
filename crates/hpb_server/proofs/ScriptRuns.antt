-- A run of a script: the definition, and the lines after it.
use Rattle.std.proofs.Common.{◌≡◌, ◌≢◌, ℕ, ◌+◌, ◌<◌, ◌≤◌, Bool, true, false, List, [], ◌∷◌, ◌++◌, length, take, Option, refl, sym, ap, ◌∙◌, subst, arith, append_assoc, length-append, take_all, ⊎_elim, inl, inr}
use Rattle.std.specs.Prelude.{Result, Ok, Err, ◌⊎◌}
use Rattle.std.specs.Result.{IsErrAnd}
use Rattle.std.specs.Io.KnownBytes.{Appends, Consumes}
use Rattle.std.proofs.KnownBytes.{Appends-kept, Appends-nil, Consumes-kept, Consumes-nil, Consumes-trans}
use Rattle.std.proofs.lemmas.Bool.{cases_lt}
use Rattle.std.proofs.lemmas.List.{length-take}
use Rattle.hpb_rules.specs.declared.limits.TheConstants.{MOST_DEFINITION_BYTES, MOST_READ_BYTES}
use Rattle.hpb_rules.specs.declared.refusal.Refusal.{Refusal}
use Rattle.hpb_rules.specs.Tree.{Rules}
use Rattle.hpb_rules.specs.Fronts.{IsFront}
use Rattle.hpb_rules.specs.Values.{first_value}
use Rattle.hpb_rules.specs.Rendering.{refusal_text}
use Rattle.hpb_rules.specs.Text.{line_of, lines_text}
use Rattle.hpb_rules.proofs.TextLaws.{one_line}
use Rattle.hpb_rules.proofs.Lists.{front_trans}
use Rattle.hpb_define.specs.declared.fault.DefineCause.{DefineCause}
use Rattle.hpb_define.specs.declared.fault.DefineCause.TheVariants as faults
use Rattle.hpb_define.specs.Text.{Answers}
use Rattle.hpb_server.specs.declared.fault.SessionFault.{SessionFault}
use Rattle.hpb_server.specs.declared.fault.SessionFault.TheVariants as errors
use Rattle.hpb_server.specs.declared.input.DefinitionText.{DefinitionText}
use Rattle.hpb_server.specs.declared.input.TheConstants.{LINE_FEED, KEPT_DEFINITION_BYTES}
use Rattle.hpb_server.specs.declared.script.ScriptEnd.{ScriptEnd}
use Rattle.hpb_server.specs.declared.script.ScriptEnd.TheVariants.{Answered, Refused}
use Rattle.hpb_server.specs.Reading.{Pending, EndsDefinition, GivesDefinition, ReadsWithin}
use Rattle.hpb_server.specs.Script.{IsTold, IsScriptText, AnswersScript, AnswersScriptFront, RefusesScript, RunsScript, WritesNothing, ServesScript, Refuses}
use Rattle.hpb_server.specs.Streams.{Streams, streams}
use Rattle.hpb_server.proofs.Errors.{err_case}
use Rattle.hpb_server.proofs.Scripts.{never, last_left}
use Rattle.hpb_server.proofs.ScriptTexts.{script_is, text_is, text_grows}
use Rattle.hpb_server.specs.Serving.{AreLines, Serves}
use Rattle.hpb_server.specs.Desk.{rules_in, never_over, one_asked, no_memory, RepliesIn, ShowsItself}
use Rattle.hpb_rules.specs.AuctionValue.{AuctionValue}
use Rattle.hpb_server.specs.AuctionDesk.{auction_ways}

-- ---- the kept bytes of the first line decide whether it is JSON
json_short : (bytes : List ℕ) → KEPT_DEFINITION_BYTES < length bytes → length (take KEPT_DEFINITION_BYTES bytes) ≤ MOST_DEFINITION_BYTES → ⊥
json_short bytes long short = absurd (omega (arith, long, short, length-take KEPT_DEFINITION_BYTES bytes))

long_answers : (bytes : List ℕ) (r : Result Rules DefineCause) → KEPT_DEFINITION_BYTES < length bytes → Answers (take KEPT_DEFINITION_BYTES bytes) r → Answers bytes r
long_answers bytes (Ok rules) long h = absurd (json_short bytes long h.0.1.0)
long_answers bytes (Err faults.Memory) long h = tt
long_answers bytes (Err faults.Json) long h = λ value json. absurd (omega (arith, long, json.0))
long_answers bytes (Err faults.Field) long h = absurd (json_short bytes long h.1.0)
long_answers bytes (Err faults.Number) long h = absurd (json_short bytes long h.1.0)
long_answers bytes (Err (faults.Refused fault)) long h = absurd (json_short bytes long h.1.1.0)

kept_answers : (kept bytes : List ℕ) (r : Result Rules DefineCause) → kept ≡ take KEPT_DEFINITION_BYTES bytes → Answers kept r → Answers bytes r
kept_answers kept bytes r is h = ⊎_elim
    (λ short. subst (λ (xs : List ℕ). Answers xs r) (is ∙ take_all KEPT_DEFINITION_BYTES bytes (omega arith)) h)
    (λ long. long_answers bytes r (omega arith) (subst (λ (xs : List ℕ). Answers xs r) is h))
    (cases_lt (length bytes) (KEPT_DEFINITION_BYTES + 1))

pub given_answers : {old new : Option (List ℕ)} {budget : ℕ} {after : Pending} {text : DefinitionText} (given : GivesDefinition old new budget after text) {kept : List ℕ} (r : Result Rules DefineCause) → kept ≡ text.bytes.items → Answers kept r → Answers given.bytes r
given_answers given {kept = kept} r same h = kept_answers kept given.bytes r (same ∙ given.kept) h

-- ---- the first line is read within the bytes that may be read
module _ {before : Pending} (is : before ≡ record { unread = []; budget = MOST_READ_BYTES }) where
  pub given_script : {old new : Option (List ℕ)} {after : Pending} {text : DefinitionText} → GivesDefinition old new before.budget after text → GivesDefinition old new MOST_READ_BYTES after text
  given_script {old = old} {new = new} {after = after} {text = text} = subst (λ (budget : ℕ). GivesDefinition old new budget after text) (ap (λ (p : Pending). p.budget) is)

  pub vain_script : (old new : Option (List ℕ)) → ReadsWithin old new before.budget → ReadsWithin old new MOST_READ_BYTES
  vain_script old new = subst (ReadsWithin old new) (ap (λ (p : Pending). p.budget) is)

-- ---- the end of a run
-- nothing was written
nothing_by : (before after : Streams) (fault : SessionFault) → fault ≢ errors.Writer → WritesNothing before after → RunsScript before after (Err fault)
nothing_by before after errors.Memory other none = inl none
nothing_by before after errors.Reader other none = inl none
nothing_by before after errors.Writer other none = absurd (other refl)

memory_written : errors.Memory ≢ errors.Writer
memory_written e = absurd (let no : errors.Memory ≡ errors.Writer = e in cc)

pub nothing_run : (before after : Streams) (fault : SessionFault) (r : Result ScriptEnd SessionFault) → IsErrAnd r (λ e. e ≡ fault) → fault ≢ errors.Writer → ReadsWithin before.remaining after.remaining MOST_READ_BYTES → Appends before.contents after.contents [] → RunsScript before after r
nothing_run before after fault r bad other vain none = err_case (RunsScript before after) r bad (λ e is. nothing_by before after e (λ writer. other (sym is ∙ writer)) (vain, none))

-- nothing was read either
pub never_run : (before : Streams) (r : Result ScriptEnd SessionFault) → IsErrAnd r (λ e. e ≡ errors.Memory) → RunsScript before before r
never_run before r bad = nothing_run before before errors.Memory r bad memory_written ([], Consumes-nil before.remaining, omega arith) (Appends-nil before.contents)

module _ {reader_old reader_now : Option (List ℕ)} {input : Pending} {text : DefinitionText} (given : GivesDefinition reader_old reader_now MOST_READ_BYTES input text) where
  ends_as : (has_end : Bool) → text.has_end ≡ has_end → EndsDefinition reader_old reader_now MOST_READ_BYTES input given.bytes has_end
  ends_as has_end is = subst (EndsDefinition reader_old reader_now MOST_READ_BYTES input given.bytes) is given.ends

  -- ---- a definition that is refused
  module _ (writer_old writer_new : Option (List ℕ)) (fault : DefineCause) (refused : Answers given.bytes (Err fault)) where
    -- the line of the refusal is the text of such a script
    abbrev refused_text : (refusal : Refusal) → IsTold fault refusal → (taken rest : List ℕ) → (taken ≡ given.bytes ++ LINE_FEED ∷ rest) ⊎ ((taken ≡ given.bytes) × (rest ≡ [])) → IsScriptText taken (line_of (refusal_text refusal))
    refused_text refusal told taken rest parts = record {
      first = given.bytes;
      rest = rest;
      reading = Err refusal;
      one_line = one_line given.bytes given.no_end;
      parts = parts;
      read = (fault, refused, told);
      by_reading = refl;
    }

    refuses : (refusal : Refusal) (has_end : Bool) → text.has_end ≡ has_end → IsTold fault refusal → RefusesScript (streams reader_old writer_old) (streams reader_now writer_new) refusal
    refuses refusal true is told =
        let ends : EndsDefinition reader_old reader_now MOST_READ_BYTES input given.bytes true = ends_as true is in record {
          taken = given.bytes ++ LINE_FEED ∷ input.unread;
          is_text = refused_text refusal told (given.bytes ++ LINE_FEED ∷ input.unread) input.unread (inl refl);
          refused = refl;
          read = ends.0;
          within = omega (arith, ends.1);
          ends = inl (input.unread, refl);
        }
    refuses refusal false is told =
        let ends : EndsDefinition reader_old reader_now MOST_READ_BYTES input given.bytes false = ends_as false is in record {
          taken = given.bytes;
          is_text = refused_text refusal told given.bytes [] (inr (refl, refl));
          refused = refl;
          read = ends.0.0;
          within = omega (arith, ends.0.1);
          ends = inr (refl, ends.1);
        }

    -- some bytes were taken
    taken_some : (has_end : Bool) → text.has_end ≡ has_end → ReadsWithin reader_old reader_now MOST_READ_BYTES
    taken_some true is =
        let ends : EndsDefinition reader_old reader_now MOST_READ_BYTES input given.bytes true = ends_as true is in
        (given.bytes ++ LINE_FEED ∷ input.unread, ends.0, omega (arith, ends.1))
    taken_some false is =
        let ends : EndsDefinition reader_old reader_now MOST_READ_BYTES input given.bytes false = ends_as false is in
        (given.bytes, ends.0.0, omega (arith, ends.0.1))

    pub refused_run : (r : Result ScriptEnd SessionFault) → Refuses writer_old writer_new fault r → RunsScript (streams reader_old writer_old) (streams reader_now writer_new) r
    refused_run (Ok Answered) w = absurd w
    refused_run (Ok (Refused refusal)) w = (refuses refusal text.has_end refl w.0, w.1)
    refused_run (Err broken) (inl none) = subst (λ (f : SessionFault). RunsScript (streams reader_old writer_old) (streams reader_now writer_new) (Err f)) (sym none.0) (inl (taken_some text.has_end refl, none.1))
    refused_run (Err broken) (inr some) = subst (λ (f : SessionFault). RunsScript (streams reader_old writer_old) (streams reader_now writer_new) (Err f)) (sym some.0) (inl (record {
      refusal = some.1;
      sent = some.2;
      refuses = refuses some.1 text.has_end refl some.3;
      written = some.4;
      front = some.5;
    }))

  -- ---- a definition that is accepted
  module _ (rules : Rules) (accepted : Answers given.bytes (Ok rules)) where
    -- no line comes after the definition
    pub ended_run : (writer : Option (List ℕ)) → text.has_end ≡ false → AnswersScript (streams reader_old writer) (streams reader_now writer)
    ended_run writer is =
        let ends : EndsDefinition reader_old reader_now MOST_READ_BYTES input given.bytes false = ends_as false is in record {
          input = given.bytes;
          text = [];
          rules = rules;
          is_text = record { first = given.bytes; rest = []; reading = Ok rules; one_line = one_line given.bytes given.no_end; parts = inr (refl, refl); read = accepted; by_reading = refl };
          accepted = refl;
          read = ends.0.0;
          ended = ⊎_elim (λ long. absurd (omega (arith, long, accepted.0.1.0))) (λ end. end) ends.1;
          within = omega (arith, ends.0.1);
          written = Appends-nil writer;
        }

    -- the lines after it are answered
    module _ (reader_new writer_old writer_new : Option (List ℕ)) (has_end : text.has_end ≡ true) where
      abbrev after_line : List ℕ → List ℕ
      after_line bytes = given.bytes ++ LINE_FEED ∷ bytes

      ends : EndsDefinition reader_old reader_now MOST_READ_BYTES input given.bytes true
      ends = ends_as true has_end

      read_all : (taken : List ℕ) → Consumes reader_now reader_new taken → Consumes reader_old reader_new (after_line (input.unread ++ taken))
      read_all taken h = subst (Consumes reader_old reader_new) (append_assoc given.bytes (LINE_FEED ∷ input.unread) taken) (Consumes-trans reader_old reader_now reader_new (after_line input.unread) taken ends.0 h)

      length_all : (taken : List ℕ) → length (after_line (input.unread ++ taken)) ≡ length (after_line input.unread) + length taken
      length_all taken = ap length (sym (append_assoc given.bytes (LINE_FEED ∷ input.unread) taken)) ∙ length-append (after_line input.unread) taken

      pub answered_run : ServesScript (streams reader_now writer_old) (streams reader_new writer_new) input (first_value rules) (Ok tt) → AnswersScript (streams reader_old writer_old) (streams reader_new writer_new)
      answered_run s = record {
        input = after_line (input.unread ++ s.1.taken);
        text = lines_text rules [] (input.unread ++ s.1.taken);
        rules = rules;
        is_text = script_is given.bytes rules (input.unread ++ s.1.taken) given.no_end accepted;
        accepted = refl;
        read = read_all s.1.taken s.1.read;
        ended = ⊎_elim (λ end. end) (λ over. absurd (never over)) s.1.ended;
        within = omega (arith, s.1.within, ends.1, length_all s.1.taken);
        written = subst (Appends writer_old writer_new) (text_is rules s.0 (input.unread ++ s.1.taken) s.1.text s.1.answers) s.1.written;
      }

      -- if the session is broken off
      answered_by : (fault : SessionFault) → AnswersScriptFront (streams reader_old writer_old) (streams reader_new writer_new) fault → RunsScript (streams reader_old writer_old) (streams reader_new writer_new) (Err fault)
      answered_by errors.Memory front = inr front
      answered_by errors.Reader front = inr front
      answered_by errors.Writer front = inr front

      broken_by : (fault : SessionFault) (new : AuctionValue) → Serves auction_ways input.unread input.budget (streams reader_now writer_old) (streams reader_new writer_new) (first_value rules) new (Err fault)
          → RunsScript (streams reader_old writer_old) (streams reader_new writer_new) (Err fault)
      broken_by fault new (inl never) = nothing_by (streams reader_old writer_old) (streams reader_new writer_new) fault (λ writer. memory_written (sym never.0 ∙ writer))
          ((after_line input.unread, Consumes-kept reader_old reader_now reader_new (after_line input.unread) ends.0 never.1.0, omega (arith, ends.1)), Appends-kept writer_old writer_old writer_new [] (Appends-nil writer_old) never.1.1)
      broken_by fault new (inr s) = answered_by fault (record {
        taken = after_line (input.unread ++ s.taken);
        answered = after_line s.done;
        rest = s.rest;
        so_far = lines_text rules [] s.done;
        text = lines_text rules [] (input.unread ++ s.taken);
        sent = s.sent;
        rules = rules;
        read = read_all s.taken s.read;
        within = omega (arith, s.within, ends.1, length_all s.taken);
        parts = ap after_line s.parts ∙ sym (append_assoc given.bytes (LINE_FEED ∷ s.done) s.rest);
        whole = ⊎_elim (λ lines. inl (line_first given.bytes s.done lines)) (λ all. inr all) s.whole;
        is_so_far = script_is given.bytes rules s.done given.no_end accepted;
        is_text = script_is given.bytes rules (input.unread ++ s.taken) given.no_end accepted;
        accepted = refl;
        written = s.written;
        front_so_far = so_far;
        left = last_left fault s.front.0 s.left;
        no_line = λ read within. s.no_line read (omega (arith, within, ends.1, length_all s.taken));
        front = front_trans s.sent (lines_text rules [] s.done) (lines_text rules [] (input.unread ++ s.taken)) so_far
            (subst (λ (all : List ℕ). IsFront (lines_text rules [] s.done) (lines_text rules [] all)) (sym s.parts)
            (text_grows rules s.done s.rest (⊎_elim (λ lines. inl lines) (λ all. inr all.0) s.whole)));
      })
        where
          so_far : IsFront s.sent (lines_text rules [] s.done)
          so_far = (s.front.0, sym (text_is rules new s.done s.text s.answers) ∙ s.front.1)

          -- a line before whole lines
          line_first : (first done : List ℕ) → AreLines done → AreLines (first ++ LINE_FEED ∷ done)
          line_first first done (inl none) = inr (first, ap (λ xs. first ++ LINE_FEED ∷ xs) none)
          line_first first done (inr lines) = inr (first ++ LINE_FEED ∷ lines.0, ap (λ xs. first ++ LINE_FEED ∷ xs) lines.1 ∙ sym (append_assoc first (LINE_FEED ∷ lines.0) (LINE_FEED ∷ [])))

      pub broken_run : (fault : SessionFault) (r : Result ScriptEnd SessionFault) → IsErrAnd r (λ e. e ≡ fault) → ServesScript (streams reader_now writer_old) (streams reader_new writer_new) input (first_value rules) (Err fault)
          → RunsScript (streams reader_old writer_old) (streams reader_new writer_new) r
      broken_run fault r bad s = err_case (RunsScript (streams reader_old writer_old) (streams reader_new writer_new)) r bad
          (λ other is. subst (λ (f : SessionFault). RunsScript (streams reader_old writer_old) (streams reader_new writer_new) (Err f)) (sym is) (broken_by fault s.0 s.1))
