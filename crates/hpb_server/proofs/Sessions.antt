-- The state of a session, line by line.
use Rattle.std.proofs.Common.{◌≡◌, ℕ, Bool, List, [], ◌++◌, take, drop, Option, refl, sym, ap, ◌∙◌, append_assoc, append-nil, take-append-drop}
use Rattle.std.specs.Io.KnownBytes.{Appends}
use Rattle.std.proofs.KnownBytes.{Appends-nil, Appends-trans}
use Rattle.hpb_rules.specs.declared.command.Command.{Command}
use Rattle.hpb_rules.specs.declared.reply.Reply.{Reply}
use Rattle.hpb_rules.specs.Tree.{Rules}
use Rattle.hpb_rules.specs.AuctionValue.{AuctionValue}
use Rattle.hpb_server.specs.declared.line.TheConstants.{KEPT_BYTES}
use Rattle.hpb_server.specs.declared.fault.SessionFault.{SessionFault}
use Rattle.hpb_server.specs.declared.fault.SessionFault.TheVariants.{Writer}
use Rattle.hpb_server.specs.Fault.{IsLeft}
use Rattle.hpb_server.specs.Reading.{HasNoEnd}
use Rattle.hpb_server.specs.Session.{Session, Broken}
use Rattle.hpb_server.proofs.WholeLines.{leads_none, leads_append}
use Rattle.hpb_server.specs.Ways.{Ways}

module _ {State : Type 0} {ways : Ways State} where
  -- the state at the start of a session
  pub session_begins : (partial : List ℕ) {line unread output : List ℕ} {desk : State} {writer : Option (List ℕ)} → HasNoEnd partial → line ≡ take KEPT_BYTES partial
      → Session ways (partial ++ unread) desk desk writer writer output line unread output
  session_begins partial {output = output} {desk = desk} {writer = writer} no_end kept = record {
    done = [];
    rest = partial;
    text = [];
    sent = [];
    leads = leads_none desk;
    no_end = no_end;
    kept = kept;
    parts = refl;
    written = Appends-nil writer;
    owed = append-nil output;
  }

  -- ---- a session and its continuation
  module _ {start : List ℕ} {old now : State} {writer_old writer_now : Option (List ℕ)} {output_old line unread output : List ℕ} (s : Session ways start old now writer_old writer_now output_old line unread output) where
    parts_after : (done rest : List ℕ) → s.rest ++ unread ≡ done ++ rest → start ≡ (s.done ++ done) ++ rest
    parts_after done rest e = s.parts ∙ ap (λ xs. s.done ++ xs) e ∙ sym (append_assoc s.done done rest)

    owed_after : (text sent left : List ℕ) → output ++ text ≡ sent ++ left → output_old ++ (s.text ++ text) ≡ (s.sent ++ sent) ++ left
    owed_after text sent left e = sym (append_assoc output_old s.text text) ∙ ap (λ xs. xs ++ text) s.owed ∙ append_assoc s.sent output text ∙ ap (λ xs. s.sent ++ xs) e ∙ sym (append_assoc s.sent sent left)

    -- it goes on
    pub session_more : {next : State} {writer_new : Option (List ℕ)} {line_new unread_new output_new : List ℕ} → Session ways (s.rest ++ unread) now next writer_now writer_new output line_new unread_new output_new
        → Session ways start old next writer_old writer_new output_old line_new unread_new output_new
    session_more {writer_new = writer_new} {unread_new = unread_new} {output_new = output_new} t = record {
      done = s.done ++ t.done;
      rest = t.rest;
      text = s.text ++ t.text;
      sent = s.sent ++ t.sent;
      leads = leads_append s.leads t.leads;
      no_end = t.no_end;
      kept = t.kept;
      parts = parts_after t.done (t.rest ++ unread_new) t.parts;
      written = Appends-trans writer_old writer_now writer_new s.sent t.sent s.written t.written;
      owed = owed_after t.text t.sent output_new t.owed;
    }

    -- it is broken off later
    pub session_broken : {next : State} {writer_new : Option (List ℕ)} {fault : SessionFault} → Broken ways (s.rest ++ unread) now next writer_now writer_new output fault → Broken ways start old next writer_old writer_new output_old fault
    session_broken {writer_new = writer_new} t = record {
      done = s.done ++ t.done;
      rest = t.rest;
      text = s.text ++ t.text;
      sent = s.sent ++ t.sent;
      leads = leads_append s.leads t.leads;
      parts = parts_after t.done t.rest t.parts;
      written = Appends-trans writer_old writer_now writer_new s.sent t.sent s.written t.written;
      front = (t.front.0, owed_after t.text t.sent t.front.0 t.front.1);
      left = t.left;
    }

    -- its output is written
    pub session_sent : {writer_new : Option (List ℕ)} {left : List ℕ} → Appends writer_now writer_new output → left ≡ [] → Session ways start old now writer_old writer_new output_old line unread left
    session_sent {writer_new = writer_new} w empty = record {
      done = s.done;
      rest = s.rest;
      text = s.text;
      sent = s.sent ++ output;
      leads = s.leads;
      no_end = s.no_end;
      kept = s.kept;
      parts = s.parts;
      written = Appends-trans writer_old writer_now writer_new s.sent output s.written w;
      owed = s.owed ∙ sym (ap (λ xs. (s.sent ++ output) ++ xs) empty ∙ append-nil (s.sent ++ output));
    }

    -- a front of its output is written
    pub session_cut : {writer_new : Option (List ℕ)} (n : ℕ) → Appends writer_now writer_new (take n output) → Broken ways start old now writer_old writer_new output_old Writer
    session_cut {writer_new = writer_new} n w = record {
      done = s.done;
      rest = s.rest ++ unread;
      text = s.text;
      sent = s.sent ++ take n output;
      leads = s.leads;
      parts = s.parts;
      written = Appends-trans writer_old writer_now writer_new s.sent (take n output) s.written w;
      front = (drop n output, s.owed ∙ ap (λ xs. s.sent ++ xs) (sym (take-append-drop n output)) ∙ sym (append_assoc s.sent (take n output) (drop n output)));
      left = tt;
    }

    -- it is broken off at this point
    abbrev pub session_stopped : (fault : SessionFault) → IsLeft ways.most ways.takes_memory fault output → Broken ways start old now writer_old writer_now output_old fault
    session_stopped fault left = record {
      done = s.done;
      rest = s.rest ++ unread;
      text = s.text;
      sent = s.sent;
      leads = s.leads;
      parts = s.parts;
      written = s.written;
      front = (output, s.owed);
      left = left;
    }

    -- more is read if no byte is unread
    pub session_read : (more : List ℕ) → unread ≡ [] → Session ways (start ++ more) old now writer_old writer_now output_old line more output
    session_read more none = record {
      done = s.done;
      rest = s.rest;
      text = s.text;
      sent = s.sent;
      leads = s.leads;
      no_end = s.no_end;
      kept = s.kept;
      parts = ap (λ xs. xs ++ more) (s.parts ∙ ap (λ xs. s.done ++ xs) (ap (λ xs. s.rest ++ xs) none ∙ append-nil s.rest)) ∙ append_assoc s.done s.rest more;
      written = s.written;
      owed = s.owed;
    }
