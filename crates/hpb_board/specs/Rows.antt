-- How letters change the auction and the rows of answers.
use Rattle.std.specs.Prelude.{◌<◌, ◌&&◌, nat_lt, if◌then◌else◌, Option, Some, None, slice_get, slice_index_or, ◌≡◌, ℕ, ◌+◌, ◌%◌, ◌^◌, ◌-◌, min, zero, suc, List, [], ◌∷◌, ◌++◌, fold, length, slice_set, replicate}
use Rattle.hpb_rules.specs.declared.letter.Answer.{Answer}
use Rattle.hpb_rules.specs.declared.letter.Letter.{Letter}
use Rattle.hpb_rules.specs.Judging.{answer_in, after_letter}
use Rattle.hpb_board.specs.declared.row.Row.{Row}
use Rattle.hpb_board.specs.declared.board.Shown.{Shown}
use Rattle.hpb_board.specs.declared.board.Opening.{Opening}
use Rattle.hpb_board.specs.Publication.{tally}

-- A row without an answer.
abbrev pub blank : Row
blank = record { count = 0; last = replicate 16 None }

-- A row after an answer, which replaces the one that came 16 before it.
abbrev pub noted : Row → Answer → Row
noted r a = record { count = min (r.count + 1) (2 ^ 64 - 1); last = slice_set r.last (r.count % 16) (Some a) }

-- The row of a seat with these answers.
abbrev pub row_of : List Answer → Row
row_of answers = fold noted blank answers

-- The second row belongs to the same seat, with as many answers or more: the answers of the first begin those of the
-- second.
abbrev pub GoesOn : Row → Row → Type 0
GoesOn r later = (before more : List Answer) × (r ≡ row_of before) × (later ≡ row_of (before ++ more)) × (length (before ++ more) < 2 ^ 64)

-- Each row of the second list continues the row at its place in the first.
abbrev pub GoOn : List Row → List Row → Type 0
GoOn rows later = (seat : ℕ) (r r' : Row) → slice_get rows seat ≡ Some r → slice_get later seat ≡ Some r' → GoesOn r r'

-- The rows after an answer to a seat.
abbrev pub note_at : List Row → ℕ → Answer → List Row
note_at [] seat a = []
note_at (r ∷ rs) zero a = noted r a ∷ rs
note_at (r ∷ rs) (suc seat) a = r ∷ note_at rs seat a

-- The answer that a row has for a number, from 1, if it has one.
abbrev pub told : Row → ℕ → Option Answer
told r zero = None
told r (suc i) = if nat_lt i r.count && nat_lt r.count (i + 17) then slice_index_or r.last (i % 16) None else None

-- The auction and the rows after one letter.
abbrev pub taken_in : Shown → Letter → Shown
taken_in shown letter = record { auction = after_letter shown.auction letter; rows = note_at shown.rows letter.seat (answer_in shown.auction letter) }

-- The auction and the rows after letters one after another.
abbrev pub shown_by : Shown → List Letter → Shown
shown_by shown letters = fold taken_in shown letters

-- The auction at the opening, without answers.
abbrev pub begun : Opening → Shown
begun o = record { auction = o.auction; rows = replicate o.seats blank }

-- These letters make no row's number of answers pass its greatest value.
abbrev pub HaveRoom : List Row → List Letter → Type 0
HaveRoom rows letters = (seat : ℕ) (row : Row) → slice_get rows seat ≡ Some row → row.count + tally seat letters < 2 ^ 64
