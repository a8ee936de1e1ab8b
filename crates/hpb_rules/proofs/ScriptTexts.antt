-- The text of a script by the reading of its first line.
use Rattle.std.proofs.Common.{◌≡◌, ◌≢◌, ℕ, Bool, true, false, eqb, List, [], ◌∷◌, ◌++◌, get_or, inl, inr, ◌⊎◌, subst, refl, sym, ap, ◌∙◌, arith}
use Rattle.std.specs.Prelude.{Result, Ok, Err, All}
use Rattle.std.specs.List.{slice_split}
use Rattle.std.proofs.lemmas.Bool.{eqb-true, eqb-false, ne_eqb}
use Rattle.std.proofs.lemmas.List.Splits.{slice_split_at, slice_split_none}
use Rattle.hpb_rules.specs.declared.refusal.Refusal.{Refusal}
use Rattle.hpb_rules.specs.Tree.{Rules}
use Rattle.hpb_rules.specs.Lines.{line_feed, is_line_feed}
use Rattle.hpb_rules.specs.Text.{text_by, text_of_lines, script_text, text_by_reading, IsText}
use Rattle.hpb_rules.specs.TextLaws.{ScriptTextIsOne}
use Rattle.hpb_rules.proofs.Lists.{all_cons}

-- a line has no line feed, as a fact and by the test
pub no_line_feed : (line : List ℕ) → All (λ byte. byte ≢ line_feed) line → All (λ byte. is_line_feed byte ≡ false) line
no_line_feed line h k d l = ne_eqb (get_or line k d) line_feed (h k d l)

pub one_line : (line : List ℕ) → All (λ byte. is_line_feed byte ≡ false) line → All (λ byte. byte ≢ line_feed) line
one_line line h k d l = eqb-false (get_or line k d) line_feed (h k d l)

-- a first line stands at the front of an input, with its end or without
abbrev pub IsFirstLine : List ℕ → List ℕ → List ℕ → Type 0
IsFirstLine input first rest = (input ≡ first ++ line_feed ∷ rest) ⊎ ((input ≡ first) × (rest ≡ []))

-- each input has a first line
first_line : (input : List ℕ) → (first rest : List ℕ) × All (λ byte. byte ≢ line_feed) first × IsFirstLine input first rest
first_line [] = ([], [], λ k d h. absurd (omega arith), inr (refl, refl))
first_line (byte ∷ input) = by (eqb byte line_feed) refl (first_line input)
  where
    longer : (first rest : List ℕ) → IsFirstLine input first rest → IsFirstLine (byte ∷ input) (byte ∷ first) rest
    longer first rest (inl ends) = inl (ap (λ bytes. byte ∷ bytes) ends)
    longer first rest (inr last) = inr (ap (λ bytes. byte ∷ bytes) last.0, last.1)

    by : (b : Bool) → eqb byte line_feed ≡ b → ((first rest : List ℕ) × All (λ byte. byte ≢ line_feed) first × IsFirstLine input first rest)
        → (first rest : List ℕ) × All (λ byte. byte ≢ line_feed) first × IsFirstLine (byte ∷ input) first rest
    by true e rec = ([], input, λ k d h. absurd (omega arith), inl (ap (λ b. b ∷ input) (eqb-true byte line_feed e)))
    by false e rec = (byte ∷ rec.0, rec.1, all_cons (λ b. b ≢ line_feed) byte rec.0 (eqb-false byte line_feed e) rec.2, longer rec.0 rec.1 rec.3)

-- the text of the lines behind a first line
lines_read : (reading : Result Rules Refusal) (rest : List ℕ) → text_by reading (slice_split is_line_feed rest) ≡ text_by_reading reading rest
lines_read (Err refusal) rest = refl
lines_read (Ok rules) rest = refl

none_read : (reading : Result Rules Refusal) → text_by reading [] ≡ text_by_reading reading []
none_read (Err refusal) = refl
none_read (Ok rules) = refl

-- the lines of an input, and the text by the reading of the first of them
module _ (input first rest : List ℕ) (line : All (λ byte. byte ≢ line_feed) first) where
  abbrev AreItsLines : List (List ℕ) → Type 0
  AreItsLines lines = (slice_split is_line_feed input ≡ first ∷ lines) × ((reading : Result Rules Refusal) → text_by_reading reading rest ≡ text_by reading lines)

  its_lines : IsFirstLine input first rest → (lines : List (List ℕ)) × AreItsLines lines
  its_lines (inl ends) = (
    slice_split is_line_feed rest,
    (ap (slice_split is_line_feed) ends ∙ slice_split_at is_line_feed first line_feed rest (no_line_feed first line) refl, λ reading. sym (lines_read reading rest)),
  )
  its_lines (inr last) = (
    [],
    (ap (slice_split is_line_feed) last.0 ∙ slice_split_none is_line_feed first (no_line_feed first line), λ reading. ap (text_by_reading reading) last.1 ∙ sym (none_read reading)),
  )

pub script_text_is : (define : List ℕ → Result Rules Refusal) (input first rest : List ℕ) → All (λ byte. byte ≢ line_feed) first → IsFirstLine input first rest → script_text define input ≡ text_by_reading (define first) rest
script_text_is define input first rest line parts =
    let lines : (lines : List (List ℕ)) × AreItsLines input first rest line lines = its_lines input first rest line parts in
    ap (text_of_lines define) lines.1.0 ∙ sym (lines.1.1 (define first))

-- if each first line is read in one way, a script has one text
module _ (reads : List ℕ → Result Rules Refusal → Type 0) (once : (line : List ℕ) (one other : Result Rules Refusal) → reads line one → reads line other → one ≡ other) where
  pub text_is_one : (input one other : List ℕ) → IsText reads input one → IsText reads input other → one ≡ other
  text_is_one input one other is too =
      let lines : (lines : List (List ℕ)) × AreItsLines input is.first is.rest is.one_line lines = its_lines input is.first is.rest is.one_line is.parts in
      let same : (lines : List (List ℕ)) × AreItsLines input too.first too.rest too.one_line lines = its_lines input too.first too.rest too.one_line too.parts in
      let cut : is.first ∷ lines.0 ≡ too.first ∷ same.0 = sym lines.1.0 ∙ same.1.0 in
      let first : is.first ≡ too.first = cc in
      let rest : lines.0 ≡ same.0 = cc in
      let reading : is.reading ≡ too.reading = once too.first is.reading too.reading (subst (λ line. reads line is.reading) first is.read) too.read in
      is.by_reading ∙ lines.1.1 is.reading ∙ ap (λ r. text_by r lines.0) reading ∙ ap (text_by too.reading) rest ∙ sym (same.1.1 too.reading) ∙ sym too.by_reading

pub script_text_is_one : ScriptTextIsOne
script_text_is_one define input =
    let cut : (first rest : List ℕ) × All (λ byte. byte ≢ line_feed) first × IsFirstLine input first rest = first_line input in
    let is : IsText (λ line reading. define line ≡ reading) input (script_text define input) = record {
      first = cut.0;
      rest = cut.1;
      reading = define cut.0;
      one_line = cut.2;
      parts = cut.3;
      read = refl;
      by_reading = script_text_is define input cut.0 cut.1 cut.2 cut.3;
    } in
    (is, λ other too. text_is_one (λ line reading. define line ≡ reading) (λ line one other p q. sym p ∙ q) input other (script_text define input) too is)
