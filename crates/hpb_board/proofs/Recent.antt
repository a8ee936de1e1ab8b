-- A row has the last answers of its seat.
use Rattle.std.proofs.Common.{Bool, true, false, cond, ◌==◌, ◌&&◌, nat_lt, if◌then◌else◌, Option, None, replicate, append_assoc, ◌≡◌, ◌≢◌, ℕ, ◌+◌, ◌%◌, ◌^◌, ◌<◌, ◌⊎◌, zero, suc, List, [], ◌∷◌, ◌++◌, length, slice_get, slice_set, slice_index_or, Some, refl, ap, sym, subst, ◌∙◌, arith, length-append, inl, inr}
use Rattle.std.specs.Prelude.{filter}
use Rattle.std.proofs.Math.ListN.{length-set}
use Rattle.std.proofs.lemmas.List.{append-nil}
use Rattle.std.proofs.lemmas.Option.{slice_get_past}
use Rattle.std.proofs.lemmas.Bool.Decides.{nat_tests}
use Rattle.hpb_rules.specs.declared.letter.Answer.{Answer}
use Rattle.hpb_rules.specs.declared.letter.Letter.{Letter}
use Rattle.hpb_rules.specs.AuctionValue.{AuctionValue}
use Rattle.hpb_rules.specs.Judging.{answer_in, judged_in, after_letter}
use Rattle.hpb_board.specs.declared.board.Opening.{Opening}
use Rattle.hpb_board.specs.declared.board.Shown.{Shown}
use Rattle.hpb_board.specs.declared.row.Row.{Row}
use Rattle.hpb_board.specs.Publication.{answers_to, recent, tally}
use Rattle.hpb_board.specs.Rows.{noted, note_at, taken_in, shown_by, blank, begun, told}
use Rattle.hpb_board.proofs.Rows.{length_rows}

pub record IsRow (r : Row) (as' : List Answer) : Type 0 where
  pub count : r.count ≡ length as'
  pub size : length r.last ≡ 16
  pub last : (i : ℕ) → i < length as' → length as' < i + 17 → slice_index_or r.last (i % 16) None ≡ slice_get as' i

get_set-here : (l : List (Option Answer)) (k : ℕ) (a : Option Answer) → k < length l → slice_index_or (slice_set l k a) k None ≡ a
get_set-here [] k a h = absurd (omega arith)
get_set-here (x ∷ xs) zero a h = refl
get_set-here (x ∷ xs) (suc k) a h = get_set-here xs k a (omega arith)

get_set-else : (l : List (Option Answer)) (k j : ℕ) (a : Option Answer) → j ≢ k → slice_index_or (slice_set l k a) j None ≡ slice_index_or l j None
get_set-else [] k j a n = refl
get_set-else (x ∷ xs) zero zero a n = absurd (n refl)
get_set-else (x ∷ xs) zero (suc j) a n = refl
get_set-else (x ∷ xs) (suc k) zero a n = refl
get_set-else (x ∷ xs) (suc k) (suc j) a n = get_set-else xs k j a (λ e. n (ap suc e))

get_append : (xs : List Answer) (a : Answer) (i : ℕ) → i < length xs → slice_get (xs ++ a ∷ []) i ≡ slice_get xs i
get_append [] a i h = absurd (omega arith)
get_append (x ∷ xs) a zero h = refl
get_append (x ∷ xs) a (suc i) h = get_append xs a i (omega arith)

get_end : (xs : List Answer) (a : Answer) → slice_get (xs ++ a ∷ []) (length xs) ≡ Some a
get_end [] a = refl
get_end (x ∷ xs) a = get_end xs a

apart : (i n : ℕ) → i < n → n < i + 16 → i % 16 ≢ n % 16
apart i n lt near e = omega arith

end_or : (i n : ℕ) → i < n + 1 → (i ≡ n) ⊎ (i < n)
end_or i n h = grind arith

last_noted : (r : Row) (xs : List Answer) (a : Answer) → IsRow r xs → (i : ℕ) → i < length xs + 1 → length xs + 1 < i + 17 → (i ≡ length xs) ⊎ (i < length xs)
    → slice_index_or (slice_set r.last (r.count % 16) (Some a)) (i % 16) None ≡ slice_get (xs ++ a ∷ []) i
last_noted r xs a is i lt near (inl e) =
    let at : i % 16 ≡ r.count % 16 = ap (λ (n : ℕ). n % 16) (e ∙ sym is.count) in
    let inside : r.count % 16 < length r.last = let s = is.size in omega arith in
    ap (λ (k : ℕ). slice_index_or (slice_set r.last (r.count % 16) (Some a)) k None) at
    ∙ (get_set-here r.last (r.count % 16) (Some a) inside ∙ (sym (get_end xs a) ∙ ap (λ (k : ℕ). slice_get (xs ++ a ∷ []) k) (sym e)))
last_noted r xs a is i lt near (inr less) =
    let c = is.count in
    let no : i % 16 ≢ r.count % 16 = apart i r.count (omega arith) (omega arith) in
    get_set-else r.last (r.count % 16) (i % 16) (Some a) no ∙ (is.last i less (omega arith) ∙ sym (get_append xs a i less))

pub noted_IsRow : (r : Row) (xs : List Answer) (a : Answer) → length xs + 1 < 2 ^ 64 → IsRow r xs → IsRow (noted r a) (xs ++ a ∷ [])
noted_IsRow r xs a room is =
    let long = length-append xs (a ∷ []) in
    let c = is.count in
    record {
      count = omega arith;
      size = length-set r.last (r.count % 16) (Some a) ∙ is.size;
      last = λ i lt near. last_noted r xs a is i (omega arith) (omega arith) (end_or i (length xs) (omega arith));
    }

-- a row after an answer
pub note_here : (rs : List Row) (k : ℕ) (a : Answer) (r : Row) → slice_get (note_at rs k a) k ≡ Some r → (q : Row) × (slice_get rs k ≡ Some q) × (r ≡ noted q a)
note_here [] k a r h = absurd cc
note_here (q ∷ rs) zero a r h = (q, refl, sym (some_same h))
  where
    some_same : {x y : Row} → Some x ≡ Some y → x ≡ y
    some_same e = cc e
note_here (q ∷ rs) (suc k) a r h = note_here rs k a r h

pub note_else : (rs : List Row) (k s : ℕ) (a : Answer) → k ≢ s → slice_get (note_at rs k a) s ≡ slice_get rs s
note_else [] k s a n = refl
note_else (q ∷ rs) zero zero a n = absurd (n refl)
note_else (q ∷ rs) zero (suc s) a n = refl
note_else (q ∷ rs) (suc k) zero a n = refl
note_else (q ∷ rs) (suc k) (suc s) a n = note_else rs k s a (λ e. n (ap suc e))

-- the row of a seat is that of its answers so far
abbrev Has : List Row → ℕ → List Answer → Type 0
Has rs s as' = (r : Row) → slice_get rs s ≡ Some r → IsRow r as'

-- the letters with one more, if the test passes
abbrev more : Bool → Letter → List Letter → List Letter
more b x xs = cond b (x ∷ xs) xs

has_next : (o : Shown) (x : Letter) (s : ℕ) (rest : List Letter) (before : List Answer) → (b : Bool) → (x.seat == s) ≡ b → length before + length (more b x rest) < 2 ^ 64 → Has o.rows s before
    → Has (taken_in o x).rows s (cond b (before ++ answer_in o.auction x ∷ []) before)
has_next o x s rest before true e few has r h =
    let a : Answer = answer_in o.auction x in
    let same : x.seat ≡ s = grind (arith, nat_tests) in
    let there = note_here o.rows s a r (subst (λ (k : ℕ). slice_get (note_at o.rows k a) s ≡ Some r) same h) in
    subst (λ (q : Row). IsRow q (before ++ a ∷ [])) (sym there.2) (noted_IsRow there.0 before a (omega (arith, few)) (has there.0 there.1))
has_next o x s rest before false e few has r h =
    let apart' : x.seat ≢ s = λ (q : x.seat ≡ s). absurd (grind (arith, nat_tests)) in
    has r (sym (note_else o.rows x.seat s (answer_in o.auction x) apart') ∙ h)

pub joined_next : (b : Bool) (before rest : List Answer) (a : Answer) → cond b (before ++ a ∷ []) before ++ rest ≡ before ++ cond b (a ∷ rest) rest
joined_next true before rest a = append_assoc before (a ∷ []) rest
joined_next false before rest a = refl

few_next : (b : Bool) (before : List Answer) (a : Answer) (x : Letter) (rest : List Letter) → length before + length (more b x rest) < 2 ^ 64 → length (cond b (before ++ a ∷ []) before) + length rest < 2 ^ 64
few_next true before a x rest few = let long = length-append before (a ∷ []) in omega (arith, long, few)
few_next false before a x rest few = omega (arith, few)

rows_along : (xs : List Letter) (o : Shown) (s : ℕ) (before : List Answer) → length before + tally s xs < 2 ^ 64 → Has o.rows s before → Has (shown_by o xs).rows s (before ++ answers_to s o.auction xs)
rows_along [] o s before few has = λ r h. subst (IsRow r) (sym (append-nil before)) (has r h)
rows_along (x ∷ xs) o s before few has =
    let b : Bool = x.seat == s in
    let a : Answer = answer_in o.auction x in
    let rest : List Letter = filter (λ (l : Letter). l.seat == s) xs in
    let next = has_next o x s rest before b refl few has in
    let all = rows_along xs (taken_in o x) s (cond b (before ++ a ∷ []) before) (few_next b before a x rest few) next in
    λ r h. subst (IsRow r) (joined_next b before (answers_to s (after_letter o.auction x) xs) a) (all r h)

pub blank_at : (n s : ℕ) (r : Row) → slice_get (replicate n blank) s ≡ Some r → r ≡ blank
blank_at zero s r h = absurd cc
blank_at (suc n) zero r h = cc h
blank_at (suc n) (suc s) r h = blank_at n s r h

pub blank_IsRow : IsRow blank []
blank_IsRow = record { count = refl; size = refl; last = λ i lt near. absurd (omega arith) }

-- after any letters the row of a seat has the number of its answers, and the last 16 of them
pub rows_fresh : (o : Opening) (s : ℕ) (xs : List Letter) (r : Row) → tally s xs < 2 ^ 64 → slice_get (shown_by (begun o) xs).rows s ≡ Some r → IsRow r (answers_to s o.auction xs)
rows_fresh o s xs r few h =
    rows_along xs (begun o) s [] (omega (arith, few)) (λ q at. subst (λ (t : Row). IsRow t []) (sym (blank_at o.seats s q at)) blank_IsRow) r h

-- there is an answer to each letter of a seat
pub length_answers : (s : ℕ) (value : AuctionValue) (xs : List Letter) → length (answers_to s value xs) ≡ tally s xs
length_answers s value [] = refl
length_answers s value (x ∷ xs) = by (x.seat == s) (filter (λ (a : Answer). a.letter.seat == s) (judged_in (after_letter value x) xs)) (filter (λ (l : Letter). l.seat == s) xs) (length_answers s (after_letter value x) xs)
  where
    by : (b : Bool) (l : List Answer) (m : List Letter) → length l ≡ length m → length (cond b (answer_in value x ∷ l) l) ≡ length (cond b (x ∷ m) m)
    by true l m e = ap suc e
    by false l m e = e

told_near : (r : Row) (as' : List Answer) (i : ℕ) → IsRow r as' → (b c : Bool) → nat_lt i (length as') ≡ b → nat_lt (length as') (i + 17) ≡ c
    → (if b && c then slice_index_or r.last (i % 16) None else None) ≡ (if c then slice_get as' i else None)
told_near r as' i is true true e f = is.last i (grind (arith, nat_tests)) (grind (arith, nat_tests))
told_near r as' i is false true e f = sym (slice_get_past as' i (grind (arith, nat_tests)))
told_near r as' i is true false e f = refl
told_near r as' i is false false e f = refl

pub told_recent : (r : Row) (as' : List Answer) (number : ℕ) → IsRow r as' → told r number ≡ recent as' number
told_recent r as' zero is = refl
told_recent r as' (suc i) is =
    let c = is.count in
    rw c (told_near r as' i is (nat_lt i (length as')) (nat_lt (length as') (i + 17)) refl refl)

pub length_blanks : (n : ℕ) → length (replicate n blank) ≡ n
length_blanks zero = refl
length_blanks (suc n) = ap suc (length_blanks n)

-- there is a row for each seat that was opened
pub length_shown : (o : Opening) (xs : List Letter) → length (shown_by (begun o) xs).rows ≡ o.seats
length_shown o xs = length_rows xs (begun o) ∙ length_blanks o.seats

pub get_is : (rs : List Row) (k : ℕ) (d : Row) → k < length rs → slice_get rs k ≡ Some (slice_index_or rs k d)
get_is [] k d h = absurd (omega arith)
get_is (r ∷ rs) zero d h = refl
get_is (r ∷ rs) (suc k) d h = get_is rs k d (omega arith)

-- the row of a seat finds the same answers as the list of its answers
pub answer_is : (rows : List Row) (o : Opening) (xs : List Letter) (s number : ℕ) (d : Row) → rows ≡ (shown_by (begun o) xs).rows → s < o.seats → tally s xs < 2 ^ 64
    → (s < length rows) × (told (slice_index_or rows s d) number ≡ recent (answers_to s o.auction xs) number)
answer_is rows o xs s number d is inside few =
    let long : length rows ≡ o.seats = ap length is ∙ length_shown o xs in
    let lt : s < length rows = omega (arith, long, inside) in
    let r : Row = slice_index_or rows s d in
    let at : slice_get rows s ≡ Some r = get_is rows s d lt in
    let there = subst (λ (rs : List Row). slice_get rs s ≡ Some r) is at in
    (lt, told_recent r (answers_to s o.auction xs) number (rows_fresh o s xs r few there))
