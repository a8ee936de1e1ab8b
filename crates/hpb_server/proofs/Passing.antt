-- An output that is written, whole or in part.
use Rattle.std.proofs.Common.{◌≡◌, ◌≢◌, ℕ, ◌+◌, ◌<◌, ◌≤◌, Bool, true, false, List, [], ◌∷◌, ◌++◌, length, get_or, take, drop, Option, refl, sym, ap, ◌∙◌, subst, arith, append_assoc, append-nil, take-append-drop, length-append, length-drop}
use Rattle.std.specs.Prelude.{Result, Ok, Err, ⊤, map}
use Rattle.std.specs.Result.{IsErrAnd}
use Rattle.std.specs.Io.KnownBytes.{Appends}
use Rattle.std.proofs.KnownBytes.{Appends-trans}
use Rattle.std.proofs.lemmas.List.{take_more}
use lib.ListN.{length-map}
use Rattle.hpb_rules.specs.declared.reply.Reply.{Reply}
use Rattle.hpb_rules.specs.Rendering.{reply_text}
use Rattle.hpb_rules.specs.Fronts.{IsFront}
use Rattle.hpb_rules.specs.Text.{line_of}
use Rattle.hpb_server.specs.declared.fault.SessionFault.{SessionFault}
use Rattle.hpb_server.specs.declared.fault.SessionFault.TheVariants.{Memory, Reader, Writer}
use Rattle.hpb_server.specs.Fault.{IsLeft, lines_of}
use Rattle.hpb_server.specs.Writing.{Sends}
use Rattle.hpb_server.specs.Session.{replies_text, Passes, PassesLine}
use Rattle.hpb_server.proofs.Errors.{err_case}

pub memory_read : Memory ≢ Reader
memory_read e = absurd (let no : Memory ≡ Reader = e in cc)

pub writer_read : Writer ≢ Reader
writer_read e = absurd (let no : Writer ≡ Reader = e in cc)

-- ---- the lines that are left
pub some_lines : {A : Type 0} → false ≡ true → A
some_lines e = absurd (let no : false ≡ true = e in cc)

-- a bound on the answers left unwritten may be raised
pub left_weaker : {few most : ℕ} (takes_memory : Bool) (fault : SessionFault) (left : List ℕ) → few ≤ most → IsLeft few false fault left → IsLeft most takes_memory fault left
left_weaker takes_memory Memory left fewer h = (h.0, omega (arith, fewer, h.1), λ none. some_lines (h.2 none), h.3)
left_weaker takes_memory Reader left fewer h = h
left_weaker takes_memory Writer left fewer h = h

pub passes_weaker : {few most : ℕ} (takes_memory : Bool) (old new : Option (List ℕ)) (bytes left : List ℕ) (r : Result ⊤ SessionFault) → few ≤ most → Passes few false old new bytes left r → Passes most takes_memory old new bytes left r
passes_weaker takes_memory old new bytes left (Ok done) fewer p = p
passes_weaker takes_memory old new bytes left (Err fault) fewer p = (p.0, p.1, p.2, p.3, left_weaker takes_memory fault p.3.0 fewer p.4)

-- a front was written first, and the bytes behind it pass
pub passes_first : (most : ℕ) (takes_memory : Bool) (old now new : Option (List ℕ)) (bytes output text left : List ℕ) (r : Result ⊤ SessionFault) → Passes 0 false old now bytes output (Ok tt) → Passes most takes_memory now new (output ++ text) left r → Passes most takes_memory old new (bytes ++ text) left r
passes_first most takes_memory old now new bytes output text left r first p = passed r p
  where
    joined : (sent rest : List ℕ) → output ++ text ≡ sent ++ rest → bytes ++ text ≡ (first.0 ++ sent) ++ rest
    joined sent rest e = ap (λ xs. xs ++ text) first.2 ∙ append_assoc first.0 output text ∙ ap (λ xs. first.0 ++ xs) e ∙ sym (append_assoc first.0 sent rest)

    passed : (r : Result ⊤ SessionFault) → Passes most takes_memory now new (output ++ text) left r → Passes most takes_memory old new (bytes ++ text) left r
    passed (Ok done) p = (first.0 ++ p.0, Appends-trans old now new first.0 p.0 first.1 p.1, joined p.0 left p.2)
    passed (Err fault) p = (p.0, first.0 ++ p.1, Appends-trans old now new first.0 p.1 first.1 p.2, (p.3.0, joined p.1 p.3.0 p.3.1), p.4)

-- the writer failed before anything else was written
pub first_fails : (most : ℕ) (takes_memory : Bool) (old new : Option (List ℕ)) (bytes output left : List ℕ) (fault : SessionFault) (r : Result ⊤ SessionFault) → IsErrAnd r (λ e. e ≡ fault) → Passes 0 false old new bytes output (Err fault) → Passes most takes_memory old new (bytes ++ []) left r
first_fails most takes_memory old new bytes output left fault r bad p = err_case (Passes most takes_memory old new (bytes ++ []) left) r bad
    (λ other is. subst (λ (f : SessionFault). Passes most takes_memory old new (bytes ++ []) left (Err f)) (sym is)
    (subst (λ (xs : List ℕ). Passes most takes_memory old new xs left (Err fault)) (sym (append-nil bytes)) (passes_weaker takes_memory old new bytes left (Err fault) (omega arith) p)))

-- the bytes that a fault of the writer leaves unwritten
front_left : (most : ℕ) (takes_memory : Bool) (old new : Option (List ℕ)) (bytes sent rest : List ℕ) (fault : SessionFault) → fault ≡ Writer → Appends old new sent → bytes ≡ sent ++ rest
    → (fault ≢ Reader) × (sent : List ℕ) × Appends old new sent × (front : IsFront sent bytes) × IsLeft most takes_memory fault front.0
front_left most takes_memory old new bytes sent rest fault is written parts =
    subst (λ (f : SessionFault). (f ≢ Reader) × (sent : List ℕ) × Appends old new sent × (front : IsFront sent bytes) × IsLeft most takes_memory f front.0) (sym is) (writer_read, sent, written, (rest, parts), tt)

-- ---- an output is written
module _ (most : ℕ) (takes_memory : Bool) (old new : Option (List ℕ)) {bytes output : List ℕ} where
  pub sent_passes : {left : List ℕ} (r : Result ⊤ SessionFault) → output ≡ bytes → Sends old new output r → left ≡ [] → Passes most takes_memory old new bytes left r
  sent_passes (Ok done) e s empty = (output, s, sym e ∙ sym (ap (λ xs. output ++ xs) empty ∙ append-nil output))
  sent_passes (Err fault) e s empty = front_left most takes_memory old new bytes (take s.1 output) (drop s.1 output) fault s.0 s.2 (sym e ∙ sym (take-append-drop s.1 output))

  -- the writer fails
  pub front_passes : (more left : List ℕ) (fault : SessionFault) (r : Result ⊤ SessionFault) → IsErrAnd r (λ e. e ≡ fault) → output ≡ bytes → Sends old new output (Err fault) → Passes most takes_memory old new (bytes ++ more) left r
  front_passes more left fault r bad e s = err_case (Passes most takes_memory old new (bytes ++ more) left) r bad
      (λ other is. front_left most takes_memory old new (bytes ++ more) (take s.1 output) (drop s.1 output ++ more) other (is ∙ s.0) s.2
      (ap (λ xs. xs ++ more) (sym e ∙ sym (take-append-drop s.1 output)) ∙ append_assoc (take s.1 output) (drop s.1 output) more))

  -- memory is refused for some lines, and all before them is written
  pub lines_refused : (answers : List (List ℕ)) (left : List ℕ) (r : Result ⊤ SessionFault) → IsErrAnd r (λ e. e ≡ Memory) → length answers ≤ most → (answers ≡ [] → takes_memory ≡ true)
      → output ≡ bytes → Appends old new output → Passes most takes_memory old new (bytes ++ lines_of answers) left r
  lines_refused answers left r bad few some e s = err_case (Passes most takes_memory old new (bytes ++ lines_of answers) left) r bad
      (λ other is. subst (λ (f : SessionFault). (f ≢ Reader) × (sent : List ℕ) × Appends old new sent × (front : IsFront sent (bytes ++ lines_of answers)) × IsLeft most takes_memory f front.0) (sym is)
      (memory_read, output, s, (lines_of answers, ap (λ xs. xs ++ lines_of answers) (sym e)), (answers, few, some, refl)))

-- an output is written whole, and nothing comes after it
pub all_sent : (old new : Option (List ℕ)) (output left : List ℕ) (r : Result ⊤ SessionFault) → Sends old new output r → left ≡ [] → Passes 0 false old new output left r
all_sent old new output left r s empty = sent_passes 0 false old new r refl s empty

-- memory is refused for a line
pub line_cut : (old new : Option (List ℕ)) {bytes output : List ℕ} (answer left : List ℕ) (r : Result ⊤ SessionFault) → output ≡ bytes → PassesLine old new (output ++ lines_of (answer ∷ [])) left r → PassesLine old new (bytes ++ line_of answer) left r
line_cut old new {bytes = bytes} answer left r e p =
    subst (λ (all : List ℕ). PassesLine old new all left r) (ap (λ xs. xs ++ lines_of (answer ∷ [])) e ∙ ap (λ xs. bytes ++ xs) (append-nil (line_of answer))) p

pub line_refused : (old new : Option (List ℕ)) {bytes output : List ℕ} (answer left : List ℕ) (r : Result ⊤ SessionFault) → IsErrAnd r (λ e. e ≡ Memory) → output ≡ bytes → Appends old new output → PassesLine old new (bytes ++ line_of answer) left r
line_refused old new answer left r bad e s = line_cut old new answer left r e (lines_refused 1 false old new (answer ∷ []) left r bad (omega arith) (λ none. absurd (cc)) refl s)

-- ---- answers added together
pub lines_append : (xs ys : List (List ℕ)) → lines_of (xs ++ ys) ≡ lines_of xs ++ lines_of ys
lines_append [] ys = refl
lines_append (x ∷ xs) ys = ap (λ zs. line_of x ++ zs) (lines_append xs ys) ∙ sym (append_assoc (line_of x) (lines_of xs) (lines_of ys))

pub texts_append : (xs ys : List Reply) → replies_text (xs ++ ys) ≡ replies_text xs ++ replies_text ys
texts_append [] ys = refl
texts_append (x ∷ xs) ys = ap (λ zs. line_of (reply_text x) ++ zs) (texts_append xs ys) ∙ sym (append_assoc (line_of (reply_text x)) (replies_text xs) (replies_text ys))

-- a loop over replies: those so far, and one more
module _ (items replies : List Reply) (same : items ≡ replies) (at : ℕ) (other : Reply) (inside : at < length items) where
  abbrev reply : Reply
  reply = get_or items at other

  replies_more : take (at + 1) replies ≡ take at replies ++ reply ∷ []
  replies_more =
      take_more replies at other (omega (arith, inside, ap length same))
      ∙ ap (λ (rs : List Reply). take at replies ++ get_or rs at other ∷ []) (sym same)

  text_more : replies_text (take (at + 1) replies) ≡ replies_text (take at replies) ++ line_of (reply_text reply)
  text_more = ap replies_text replies_more ∙ texts_append (take at replies) (reply ∷ []) ∙ ap (λ xs. replies_text (take at replies) ++ xs) (append-nil (line_of (reply_text reply)))

  text_all : replies_text replies ≡ (replies_text (take at replies) ++ line_of (reply_text reply)) ++ replies_text (drop (at + 1) replies)
  text_all = ap replies_text (sym (take-append-drop (at + 1) replies)) ∙ texts_append (take (at + 1) replies) (drop (at + 1) replies) ∙ ap (λ xs. xs ++ replies_text (drop (at + 1) replies)) text_more

  module _ (writer_old writer_now writer_new : Option (List ℕ)) (output_old output : List ℕ) (sent : List ℕ) (w : Appends writer_old writer_now sent) (owed : output_old ++ replies_text (take at replies) ≡ sent ++ output) where
    owed_more : (bytes : List ℕ) → output_old ++ (replies_text (take at replies) ++ bytes) ≡ sent ++ (output ++ bytes)
    owed_more bytes = sym (append_assoc output_old (replies_text (take at replies)) bytes) ∙ ap (λ xs. xs ++ bytes) owed ∙ append_assoc sent output bytes

    -- the answer is added
    pub reply_passed : (output_new : List ℕ) → Passes 1 false writer_now writer_new (output ++ line_of (reply_text reply)) output_new (Ok tt)
        → (sent : List ℕ) × Appends writer_old writer_new sent × (output_old ++ replies_text (take (at + 1) replies) ≡ sent ++ output_new)
    reply_passed output_new p = (
      sent ++ p.0,
      Appends-trans writer_old writer_now writer_new sent p.0 w p.1,
      ap (λ xs. output_old ++ xs) text_more ∙ owed_more (line_of (reply_text reply)) ∙ ap (λ xs. sent ++ xs) p.2 ∙ sym (append_assoc sent p.0 output_new),
    )

    left_more : (fault : SessionFault) (left : List ℕ) → fault ≢ Reader → IsLeft 1 false fault left → IsLeft (length replies) false fault (left ++ replies_text (drop (at + 1) replies))
    left_more Memory left other h = (
      h.0 ++ map reply_text (drop (at + 1) replies),
      omega (arith, inside, ap length same, h.1, length-append h.0 (map reply_text (drop (at + 1) replies)), length-map (drop (at + 1) replies) reply_text, length-drop (at + 1) replies),
      λ none. h.2 (front_none h.0 (map reply_text (drop (at + 1) replies)) none),
      ap (λ xs. xs ++ replies_text (drop (at + 1) replies)) h.3 ∙ sym (lines_append h.0 (map reply_text (drop (at + 1) replies))),
    )
      where
        front_none : (xs ys : List (List ℕ)) → xs ++ ys ≡ [] → xs ≡ []
        front_none [] ys e = refl
        front_none (x ∷ xs) ys e = absurd (cc)
    left_more Reader left other h = absurd (other refl)
    left_more Writer left other h = tt

    -- it isn't added, and neither are those behind it
    pub reply_broken : (output_new : List ℕ) (fault : SessionFault) (r : Result ⊤ SessionFault) → IsErrAnd r (λ e. e ≡ fault) → Passes 1 false writer_now writer_new (output ++ line_of (reply_text reply)) output_new (Err fault)
        → Passes (length replies) false writer_old writer_new (output_old ++ replies_text replies) output_new r
    reply_broken output_new fault r bad p = err_case (Passes (length replies) false writer_old writer_new (output_old ++ replies_text replies) output_new) r bad
        (λ other is. subst (λ (f : SessionFault). Passes (length replies) false writer_old writer_new (output_old ++ replies_text replies) output_new (Err f)) (sym is) (
          p.0,
          sent ++ p.1,
          Appends-trans writer_old writer_now writer_new sent p.1 w p.2,
          (p.3.0 ++ (replies_text (drop (at + 1) replies)), all),
          left_more fault p.3.0 p.0 p.4,
        ))
      where
        all : output_old ++ replies_text replies ≡ (sent ++ p.1) ++ (p.3.0 ++ (replies_text (drop (at + 1) replies)))
        all =
            ap (λ xs. output_old ++ xs) (text_all ∙ append_assoc (replies_text (take at replies)) (line_of (reply_text reply)) (replies_text (drop (at + 1) replies)))
            ∙ owed_more (line_of (reply_text reply) ++ (replies_text (drop (at + 1) replies)))
            ∙ ap (λ xs. sent ++ xs) (sym (append_assoc output (line_of (reply_text reply)) (replies_text (drop (at + 1) replies))) ∙ ap (λ xs. xs ++ (replies_text (drop (at + 1) replies))) p.3.1 ∙ append_assoc p.1 p.3.0 (replies_text (drop (at + 1) replies)))
            ∙ sym (append_assoc sent p.1 (p.3.0 ++ (replies_text (drop (at + 1) replies))))
