-- Whole lines, and the answers to them and to the bytes behind them.
use Rattle.std.proofs.Common.{◌≡◌, ℕ, Bool, true, false, ◌||◌, eqb, List, [], ◌∷◌, ◌++◌, length, Option, refl, sym, ap, ◌∙◌, subst, append_assoc, append-nil, ⊎_elim, inl, inr}
use Rattle.std.specs.Prelude.{if◌then◌else◌}
use Rattle.std.specs.List.{slice_split}
use Rattle.std.proofs.lemmas.List.Splits.{slice_split_at, slice_split_none}
use Rattle.hpb_rules.specs.declared.command.Command.{Command}
use Rattle.hpb_rules.specs.declared.reply.Reply.{Reply}
use Rattle.hpb_rules.specs.Tree.{Rules}
use Rattle.hpb_rules.proofs.Lists.{or_true}
use Rattle.hpb_rules.specs.AuctionValue.{AuctionValue}
use Rattle.hpb_rules.specs.Text.{line_of, unfinished_text}
use Rattle.hpb_rules.specs.Lines.{is_line_feed}
use Rattle.hpb_rules.proofs.TextLaws.{IsFilled, filled, split_filled}
use Rattle.hpb_rules.proofs.Lists.{or_false}
use Rattle.hpb_server.specs.declared.input.TheConstants.{LINE_FEED}
use Rattle.hpb_server.specs.Fault.{lines_of}
use Rattle.hpb_server.specs.Reading.{HasNoEnd}
use Rattle.hpb_server.specs.Serving.{AreLines, AnswersLine, AnswersLines, AnswersInput}
use Rattle.hpb_server.specs.Session.{Leads}
use Rattle.hpb_server.specs.Ways.{Ways}

-- ---- pieces
none_whole : AreLines []
none_whole = inl refl

line_whole : (line : List ℕ) → AreLines (line ++ LINE_FEED ∷ [])
line_whole line = inr (line, refl)

whole_append : (a b : List ℕ) → AreLines a → AreLines b → AreLines (a ++ b)
whole_append a b p q = ⊎_elim
    (λ none. subst AreLines (sym (ap (λ ys. a ++ ys) none ∙ append-nil a)) p)
    (λ some. inr (a ++ some.0, ap (λ ys. a ++ ys) some.1 ∙ sym (append_assoc a some.0 (LINE_FEED ∷ []))))
    q

lines_whole : (lines : List (List ℕ)) → AreLines (lines_of lines)
lines_whole [] = none_whole
lines_whole (line ∷ lines) = whole_append (line_of line) (lines_of lines) (line_whole line) (lines_whole lines)

-- ---- answers
module _ {State : Type 0} (ways : Ways State) where
  before_parts : (a b end : State) (line answer rest : List ℕ) (parts : List (List ℕ)) → IsFilled parts → AnswersLine ways a line answer b
      → ways.over a ≡ false → AnswersLines ways b parts rest end → AnswersLines ways a (line ∷ parts) (line_of answer ++ rest) end
  before_parts a b end line answer rest parts (filled piece pieces) h goes k = inr (goes, answer, rest, b, h, k, refl)

  -- nothing is answered once the session is over
  over_lines : (d : State) (lines : List (List ℕ)) → ways.over d ≡ true → AnswersLines ways d lines [] d
  over_lines d [] is = (refl, refl)
  over_lines d (last ∷ []) is = (refl, ap (λ b. if b then [] else unfinished_text) (sym (ap (λ b. eqb (length last) 0 || b) is ∙ or_true (eqb (length last) 0))))
  over_lines d (line ∷ following ∷ more) is = inl (is, refl, refl)

  pub over_answered : (d : State) (input : List ℕ) → ways.over d ≡ true → AnswersInput ways d input [] d
  over_answered d input is = over_lines d (slice_split is_line_feed input) is

  -- the answer is empty then
  nothing_over : (d e : State) (lines : List (List ℕ)) (text : List ℕ) → ways.over d ≡ true → AnswersLines ways d lines text e → (e ≡ d) × (text ≡ [])
  nothing_over d e [] text is h = h
  nothing_over d e (last ∷ []) text is h = (h.0, h.1 ∙ ap (λ b. if b then [] else unfinished_text) (ap (λ b. eqb (length last) 0 || b) is ∙ or_true (eqb (length last) 0)))
  nothing_over d e (line ∷ following ∷ more) text is (inl ended) = (ended.1, ended.2)
  nothing_over d e (line ∷ following ∷ more) text is (inr goes) = absurd (let no : true ≡ false = sym is ∙ goes.0 in cc)

  pub over_input : (d e : State) (input text : List ℕ) → ways.over d ≡ true → AnswersInput ways d input text e → (e ≡ d) × (text ≡ [])
  over_input d e input text is h = nothing_over d e (slice_split is_line_feed input) text is h

module _ {State : Type 0} {ways : Ways State} where
  pub leads_none : (d : State) → Leads ways d [] [] d
  leads_none d = record { whole = none_whole; goes_on = λ more rest end h. h }

  pub leads_append : {a b e : State} {done text more rest : List ℕ} → Leads ways a done text b → Leads ways b more rest e → Leads ways a (done ++ more) (text ++ rest) e
  leads_append {a = a} {b = b} {e = e} {done = done} {text = text} {more = more} {rest = rest} p q = record {
    whole = whole_append done more p.whole q.whole;
    goes_on = λ xs ys end h.
        subst (λ (input : List ℕ). AnswersInput ways a input ((text ++ rest) ++ ys) end) (sym (append_assoc done more xs))
        (subst (λ (out : List ℕ). AnswersInput ways a (done ++ (more ++ xs)) out end) (sym (append_assoc text rest ys))
        (p.goes_on (more ++ xs) (rest ++ ys) end (q.goes_on xs ys end h)));
  }

  pub leads_line : (a b : State) (line answer : List ℕ) → HasNoEnd line → ways.over a ≡ false → AnswersLine ways a line answer b → Leads ways a (line ++ LINE_FEED ∷ []) (line_of answer) b
  leads_line a b line answer no_end goes h = record {
    whole = line_whole line;
    goes_on = λ more rest end k.
        subst (λ (lines : List (List ℕ)). AnswersLines ways a lines (line_of answer ++ rest) end)
        (sym (ap (slice_split is_line_feed) (append_assoc line (LINE_FEED ∷ []) more) ∙ slice_split_at is_line_feed line LINE_FEED more no_end refl))
        (before_parts ways a b end line answer rest (slice_split is_line_feed more) (split_filled is_line_feed more) h goes k);
  }

  -- lines get no answer if the session was over before them
  pub leads_over : (d : State) (lines : List (List ℕ)) → ways.over d ≡ true → Leads ways d (lines_of lines) [] d
  leads_over d lines is = record {
    whole = lines_whole lines;
    goes_on = λ more rest end h.
        let none = over_input ways d end more rest is h in
        subst (λ (e : State). AnswersInput ways d (lines_of lines ++ more) rest e) (sym none.0)
        (subst (λ (out : List ℕ). AnswersInput ways d (lines_of lines ++ more) out d) (sym none.1) (over_answered ways d (lines_of lines ++ more) is));
  }

  module _ {a b : State} {done text : List ℕ} (p : Leads ways a done text b) where
    -- the text of whole lines
    pub lines_answered : AnswersInput ways a done text b
    lines_answered =
        subst (λ (input : List ℕ). AnswersInput ways a input text b) (append-nil done)
        (subst (λ (out : List ℕ). AnswersInput ways a (done ++ []) out b) (append-nil text) (p.goes_on [] [] b (refl, refl)))

    -- the text of whole lines and of a last line without an end
    pub last_answered : (last : List ℕ) → HasNoEnd last → ways.over b ≡ false → AnswersInput ways a (done ++ last) (text ++ (if eqb (length last) 0 then [] else unfinished_text)) b
    last_answered last no_end goes = p.goes_on last (if eqb (length last) 0 then [] else unfinished_text) b
        (subst (λ (lines : List (List ℕ)). AnswersLines ways b lines (if eqb (length last) 0 then [] else unfinished_text) b) (sym (slice_split_none is_line_feed last no_end))
        (refl, ap (λ (x : Bool). if x then [] else unfinished_text) (sym (ap (λ (x : Bool). eqb (length last) 0 || x) goes ∙ or_false (eqb (length last) 0)))))

    -- the text of whole lines if the session is over after them, whatever stands behind
    pub rest_answered : (rest : List ℕ) → ways.over b ≡ true → AnswersInput ways a (done ++ rest) text b
    rest_answered rest is = subst (λ (out : List ℕ). AnswersInput ways a (done ++ rest) out b) (append-nil text) (p.goes_on rest [] b (over_answered ways b rest is))
