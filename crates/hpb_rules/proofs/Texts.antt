-- The text of lines, one line after another.
use Rattle.std.proofs.Common.{◌≡◌, ℕ, Bool, true, false, cond, eqb, List, [], ◌∷◌, ◌++◌, reverse, length, take, take_all, ◌<◌, ◌||◌, ⊎_elim, arith, refl, sym, ap, ◌∙◌, append_assoc}
use Rattle.std.specs.Prelude.{Result, Ok, Err, None, All, if◌then◌else◌}
use Rattle.std.specs.List.{slice_split, onto_first, list_any}
use Rattle.std.proofs.lemmas.List.{length-take}
use Rattle.std.proofs.lemmas.Bool.{cases_lt, lt-ltb}
use Rattle.std.proofs.lemmas.List.Splits.{slice_split_at, slice_split_none}
use Rattle.hpb_rules.specs.declared.refusal.Refusal.{Refusal}
use Rattle.hpb_rules.specs.declared.command.Command.{Command}
use Rattle.hpb_rules.specs.Tree.{Rules}
use Rattle.hpb_rules.specs.Fronts.{IsFront}
use Rattle.hpb_rules.specs.Lines.{is_line_feed, most_line_bytes, line_feed, line_words, spelled_by, spelled, looked_up, request_of}
use Rattle.hpb_rules.specs.Text.{unfinished_text, answer_line, next_past, lines_after, text_after, lines_text, text_by, text_of_lines, line_of}
use Rattle.hpb_rules.specs.Rendering.{refusal_text}
use Rattle.hpb_rules.specs.TextLaws.{ScriptTextGrows}
use Rattle.hpb_rules.proofs.Lists.{front_self, append_nil}

-- ---- lines of two pieces of input
-- a list with one item at least
pub data IsFilled {A : Type 0} : List A → Type 0 where
  filled : (x : A) (xs : List A) → IsFilled (x ∷ xs)

pub split_filled : (p : ℕ → Bool) (xs : List ℕ) → IsFilled (slice_split p xs)
split_filled p [] = filled [] []
split_filled p (x ∷ xs) = by (p x) (slice_split p xs) (split_filled p xs)
  where
    by : (b : Bool) (parts : List (List ℕ)) → IsFilled parts → IsFilled (cond b ([] ∷ parts) (onto_first x parts))
    by true parts h = filled [] parts
    by false parts (filled y ys) = filled (x ∷ y) ys

-- the bytes in front of a line feed and those behind it are split apart
pub split_at_end : (front rest : List ℕ) → slice_split is_line_feed (front ++ line_feed ∷ rest) ≡ slice_split is_line_feed front ++ slice_split is_line_feed rest
split_at_end [] rest = refl
split_at_end (x ∷ front) rest = ap (λ parts. cond (is_line_feed x) ([] ∷ parts) (onto_first x parts)) (split_at_end front rest) ∙ by (is_line_feed x) (slice_split is_line_feed front) (split_filled is_line_feed front)
  where
    by : (b : Bool) (parts : List (List ℕ)) → IsFilled parts → cond b ([] ∷ (parts ++ slice_split is_line_feed rest)) (onto_first x (parts ++ slice_split is_line_feed rest)) ≡ cond b ([] ∷ parts) (onto_first x parts) ++ slice_split is_line_feed rest
    by true parts h = refl
    by false parts (filled y ys) = refl

-- ---- the text of some lines, and the past that they lead to
module _ (rules : Rules) where
  abbrev pub answered : List Command → List (List ℕ) → List ℕ
  answered past [] = []
  answered past (line ∷ lines) = answer_line rules past line ++ answered (next_past rules past line) lines

  abbrev pub past_of : List Command → List (List ℕ) → List Command
  past_of past [] = past
  past_of past (line ∷ lines) = past_of (next_past rules past line) lines

  pub lines_append : (lines : List (List ℕ)) (past : List Command) (piece : List ℕ) (pieces : List (List ℕ))
      → lines_after rules past (lines ++ piece ∷ pieces) ≡ answered past lines ++ lines_after rules (past_of past lines) (piece ∷ pieces)
  lines_append [] past piece pieces = refl
  lines_append (line ∷ []) past piece pieces = sym (append_assoc (answer_line rules past line) [] (lines_after rules (next_past rules past line) (piece ∷ pieces)))
  lines_append (line ∷ next ∷ lines) past piece pieces =
      ap (λ text. answer_line rules past line ++ text) (lines_append (next ∷ lines) (next_past rules past line) piece pieces)
      ∙ sym (append_assoc (answer_line rules past line) (answered (next_past rules past line) (next ∷ lines)) (lines_after rules (past_of (next_past rules past line) (next ∷ lines)) (piece ∷ pieces)))

  lines_filled : (lines more : List (List ℕ)) (past : List Command) → IsFilled more → lines_after rules past (lines ++ more) ≡ answered past lines ++ lines_after rules (past_of past lines) more
  lines_filled lines more past (filled piece pieces) = lines_append lines past piece pieces

  -- the text of whole lines with more behind them
  pub text_at_end : (past : List Command) (front rest : List ℕ) → text_after rules past (front ++ line_feed ∷ rest) ≡ answered past (slice_split is_line_feed front) ++ text_after rules (past_of past (slice_split is_line_feed front)) rest
  text_at_end past front rest = ap (lines_after rules past) (split_at_end front rest) ∙ lines_filled (slice_split is_line_feed front) (slice_split is_line_feed rest) past (split_filled is_line_feed rest)

  -- one line, and the lines behind it
  pub text_of_line : (past : List Command) (line more : List ℕ) → All (λ byte. is_line_feed byte ≡ false) line → text_after rules past (line ++ line_feed ∷ more) ≡ answer_line rules past line ++ text_after rules (next_past rules past line) more
  text_of_line past line more h = ap (lines_after rules past) (slice_split_at is_line_feed line line_feed more h refl) ∙ lines_filled (line ∷ []) (slice_split is_line_feed more) past (split_filled is_line_feed more)
      ∙ append_assoc (answer_line rules past line) [] (text_after rules (next_past rules past line) more)

  -- a last line without its end
  pub text_of_last : (past : List Command) (line : List ℕ) → All (λ byte. is_line_feed byte ≡ false) line → text_after rules past line ≡ (if eqb (length line) 0 then [] else unfinished_text)
  text_of_last past line h = ap (lines_after rules past) (slice_split_none is_line_feed line h)

  front_after : (past : List Command) (lines more : List (List ℕ)) → IsFilled more → IsFront (lines_after rules past (lines ++ [] ∷ [])) (lines_after rules past (lines ++ more))
  front_after past lines more h = (
    lines_after rules (past_of past lines) more,
    lines_filled lines more past h ∙ ap (λ text. text ++ lines_after rules (past_of past lines) more) (append_nil (answered past lines) ∙ sym (lines_append lines past [] [])),
  )

-- the text of whole lines is a front of the text of these lines with more behind them
pub lines_text_grows : (rules : Rules) (history : List Command) (front rest : List ℕ) → IsFront (lines_text rules history (front ++ line_feed ∷ [])) (lines_text rules history (front ++ line_feed ∷ rest))
lines_text_grows rules history front rest =
    let more : IsFront (lines_after rules (reverse history) (slice_split is_line_feed front ++ [] ∷ [])) (lines_after rules (reverse history) (slice_split is_line_feed front ++ slice_split is_line_feed rest))
    = front_after rules (reverse history) (slice_split is_line_feed front) (slice_split is_line_feed rest) (split_filled is_line_feed rest) in
    (more.0, ap (lines_after rules (reverse history)) (split_at_end front rest) ∙ more.1 ∙ ap (λ text. text ++ more.0) (sym (ap (lines_after rules (reverse history)) (split_at_end front []))))

-- the text behind a first line that was read as a definition, or refused
text_front : (read : Result Rules Refusal) (lines more : List (List ℕ)) → IsFilled more → IsFront (text_by read (lines ++ [] ∷ [])) (text_by read (lines ++ more))
text_front (Err refusal) lines more h = front_self (line_of (refusal_text refusal))
text_front (Ok rules) lines more h = front_after rules [] lines more h

script_front : (define : List ℕ → Result Rules Refusal) (lines more : List (List ℕ)) → IsFilled lines → IsFilled more → IsFront (text_of_lines define (lines ++ [] ∷ [])) (text_of_lines define (lines ++ more))
script_front define lines more (filled first others) h = text_front (define first) others more h

pub script_text_grows : ScriptTextGrows
script_text_grows define front rest =
    let more : IsFront (text_of_lines define (slice_split is_line_feed front ++ [] ∷ [])) (text_of_lines define (slice_split is_line_feed front ++ slice_split is_line_feed rest))
    = script_front define (slice_split is_line_feed front) (slice_split is_line_feed rest) (split_filled is_line_feed front) (split_filled is_line_feed rest) in
    (more.0, ap (text_of_lines define) (split_at_end front rest) ∙ more.1 ∙ ap (λ text. text ++ more.0) (sym (ap (text_of_lines define) (split_at_end front []))))

-- ---- long lines
too_long : (line : List ℕ) → most_line_bytes < length line → spelled line ≡ None
too_long line h = ap (λ b. if b || list_any is_line_feed line then None else spelled_by (line_words line)) (lt-ltb most_line_bytes (length line) h)

-- the first 129 bytes of a line decide its request
pub request_of_front : (rules : Rules) (line : List ℕ) → request_of rules (take 129 line) ≡ request_of rules line
request_of_front rules line = ⊎_elim
    (λ short. ap (request_of rules) (take_all 129 line (omega arith)))
    (λ long. ap (looked_up rules) (too_long (take 129 line) (omega (arith, length-take 129 line)) ∙ sym (too_long line (omega arith))))
    (cases_lt (length line) 129)
