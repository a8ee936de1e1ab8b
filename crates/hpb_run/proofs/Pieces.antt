-- An input, line by line.
use Rattle.std.proofs.Common.{◌≡◌, ℕ, Bool, true, false, List, [], ◌∷◌, ◌++◌, reverse, refl, sym, ap, ◌∙◌, subst, arith, append_assoc, ⊎_elim, inr}
use Rattle.std.specs.List.{slice_split}
use Rattle.std.proofs.lemmas.Bool.{eqb-true}
use Rattle.std.proofs.lemmas.List.{reverse-reverse}
use Rattle.std.proofs.lemmas.List.Splits.{slice_split_at}
use Rattle.hpb_rules.specs.declared.command.Command.{Command}
use Rattle.hpb_rules.specs.Tree.{Rules}
use Rattle.hpb_rules.specs.Lines.{line_feed, is_line_feed}
use Rattle.hpb_rules.specs.Text.{answer_line, next_past, lines_after, lines_text, state_after, history_after_lines}
use Rattle.hpb_rules.proofs.Lists.{all_cons}
use Rattle.hpb_rules.proofs.TextLaws.{IsFilled, filled, split_filled}
use Rattle.hpb_server.specs.Reading.{HasNoEnd}
use Rattle.hpb_server.specs.Serving.{AreLines}

-- an input is a last line without its end, or a line with its end and an input behind it
pub data Pieces : List ℕ → Type 0 where
  last : (line : List ℕ) → HasNoEnd line → Pieces line
  more : (line rest : List ℕ) → HasNoEnd line → Pieces rest → Pieces (line ++ line_feed ∷ rest)

none_ends : HasNoEnd []
none_ends k d h = absurd (omega arith)

pub pieces : (input : List ℕ) → Pieces input
pieces [] = last [] none_ends
pieces (x ∷ xs) = by (is_line_feed x) xs refl (pieces xs)
  where
    by : (b : Bool) (ys : List ℕ) → is_line_feed x ≡ b → Pieces ys → Pieces (x ∷ ys)
    by true ys e p = subst (λ (y : ℕ). Pieces (y ∷ ys)) (sym (eqb-true x line_feed e)) (more [] ys none_ends p)
    by false ys e (last line h) = last (x ∷ line) (all_cons (λ b. is_line_feed b ≡ false) x line e h)
    by false ys e (more line rest h p) = more (x ∷ line) rest (all_cons (λ b. is_line_feed b ≡ false) x line e h) p

-- a line with its end stands before the lines behind it
pub split_line : (line rest : List ℕ) → HasNoEnd line → slice_split is_line_feed (line ++ line_feed ∷ rest) ≡ line ∷ slice_split is_line_feed rest
split_line line rest h = slice_split_at is_line_feed line line_feed rest h refl

pub line_is_whole : (line rest : List ℕ) → AreLines rest → AreLines (line ++ line_feed ∷ rest)
line_is_whole line rest whole = ⊎_elim
    (λ none. inr (line, ap (λ xs. line ++ line_feed ∷ xs) none))
    (λ some. inr (line ++ line_feed ∷ some.0, ap (λ xs. line ++ line_feed ∷ xs) some.1 ∙ sym (append_assoc line (line_feed ∷ some.0) (line_feed ∷ []))))
    whole

-- ---- the text of a line and of the lines behind it
module _ (rules : Rules) where
  text_of_first : (past : List Command) (line : List ℕ) (lines : List (List ℕ)) → IsFilled lines → lines_after rules past (line ∷ lines) ≡ answer_line rules past line ++ lines_after rules (next_past rules past line) lines
  text_of_first past line lines (filled first others) = refl

  past_of_first : (past : List Command) (line : List ℕ) (lines : List (List ℕ)) → IsFilled lines → state_after (next_past rules) past (line ∷ lines) ≡ state_after (next_past rules) (next_past rules past line) lines
  past_of_first past line lines (filled first others) = refl

  pub text_of_line : (history next : List Command) (line rest : List ℕ) → HasNoEnd line → next ≡ reverse (next_past rules (reverse history) line)
      → lines_text rules history (line ++ line_feed ∷ rest) ≡ answer_line rules (reverse history) line ++ lines_text rules next rest
  text_of_line history next line rest h is =
      ap (lines_after rules (reverse history)) (split_line line rest h)
      ∙ text_of_first (reverse history) line (slice_split is_line_feed rest) (split_filled is_line_feed rest)
      ∙ ap (λ past. answer_line rules (reverse history) line ++ lines_after rules past (slice_split is_line_feed rest)) (sym (ap reverse is ∙ reverse-reverse (next_past rules (reverse history) line)))

  pub history_of_line : (history next : List Command) (line rest : List ℕ) → HasNoEnd line → next ≡ reverse (next_past rules (reverse history) line)
      → history_after_lines rules history (line ++ line_feed ∷ rest) ≡ history_after_lines rules next rest
  history_of_line history next line rest h is = ap reverse (
      ap (state_after (next_past rules) (reverse history)) (split_line line rest h)
      ∙ past_of_first (reverse history) line (slice_split is_line_feed rest) (split_filled is_line_feed rest)
      ∙ ap (λ past. state_after (next_past rules) past (slice_split is_line_feed rest)) (sym (ap reverse is ∙ reverse-reverse (next_past rules (reverse history) line))))
