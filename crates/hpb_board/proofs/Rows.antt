-- The rows of answers.
use Rattle.std.proofs.Common.{◌≡◌, ℕ, ◌<◌, ◌≤◌, zero, suc, List, [], ◌∷◌, length, set, get_or, refl, ap, ◌∙◌, arith}
use Rattle.hpb_rules.specs.declared.letter.Answer.{Answer}
use Rattle.hpb_rules.specs.declared.letter.Letter.{Letter}
use Rattle.hpb_rules.specs.Judging.{answer_in}
use Rattle.hpb_board.specs.declared.row.Row.{Row}
use Rattle.hpb_board.specs.declared.board.Shown.{Shown}
use Rattle.hpb_board.specs.Rows.{noted, note_at, taken_in, shown_by}

pub note_at-inside : (rs : List Row) (k : ℕ) (a : Answer) (d : Row) → k < length rs → note_at rs k a ≡ set rs k (noted (get_or rs k d) a)
note_at-inside [] k a d h = absurd (omega arith)
note_at-inside (r ∷ rs) zero a d h = refl
note_at-inside (r ∷ rs) (suc k) a d h = ap (λ (t : List Row). r ∷ t) (note_at-inside rs k a d (omega arith))

pub note_at-past : (rs : List Row) (k : ℕ) (a : Answer) → length rs ≤ k → note_at rs k a ≡ rs
note_at-past [] k a h = refl
note_at-past (r ∷ rs) zero a h = absurd (omega arith)
note_at-past (r ∷ rs) (suc k) a h = ap (λ (t : List Row). r ∷ t) (note_at-past rs k a (omega arith))

pub length-note_at : (rs : List Row) (k : ℕ) (a : Answer) → length (note_at rs k a) ≡ length rs
length-note_at [] k a = refl
length-note_at (r ∷ rs) zero a = refl
length-note_at (r ∷ rs) (suc k) a = ap (λ (n : ℕ). suc n) (length-note_at rs k a)

-- letters don't change the number of rows
pub length_rows : (xs : List Letter) (o : Shown) → length (shown_by o xs).rows ≡ length o.rows
length_rows [] o = refl
length_rows (x ∷ xs) o = length_rows xs (taken_in o x) ∙ length-note_at o.rows x.seat (answer_in o.auction x)

pub ruleset row_lemmas = (note_at-inside, note_at-past)
