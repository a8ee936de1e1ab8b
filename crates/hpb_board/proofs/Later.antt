-- A later row goes on from an earlier one of its seat.
use Rattle.std.proofs.Common.{Bool, true, false, cond, ◌==◌, nat_lt, if◌then◌else◌, None, Some, append_assoc, ◌≡◌, ◌≢◌, ℕ, ◌+◌, ◌^◌, ◌<◌, ◌≤◌, zero, suc, List, [], ◌∷◌, ◌++◌, fold, length, slice_get, refl, ap, sym, subst, ◌∙◌, arith, length-append, drop}
use Rattle.std.specs.Prelude.{filter}
use Rattle.std.proofs.lemmas.List.{append-nil}
use Rattle.std.proofs.lemmas.List.Sums.{fold-append}
use Rattle.std.proofs.lemmas.List.Elements.{filter-append}
use Rattle.std.proofs.lemmas.Bool.Decides.{nat_tests}
use mathlib.Core.List.{IsPrefix}
use Rattle.hpb_rules.specs.declared.letter.Answer.{Answer}
use Rattle.hpb_rules.specs.declared.letter.Letter.{Letter}
use Rattle.hpb_rules.specs.AuctionValue.{AuctionValue}
use Rattle.hpb_rules.specs.Judging.{answer_in, judged_in, after_letter, value_by}
use Rattle.hpb_board.specs.declared.board.Opening.{Opening}
use Rattle.hpb_board.specs.declared.board.Shown.{Shown}
use Rattle.hpb_board.specs.declared.row.Row.{Row}
use Rattle.hpb_board.specs.Publication.{answers_to, recent, IsRoomy}
use Rattle.hpb_rules.specs.Fronts.{joined}
use Rattle.hpb_rules.proofs.Judged.{joined_append, judged_join}
use Rattle.hpb_board.specs.Rows.{noted, note_at, taken_in, shown_by, blank, begun, told, row_of, GoesOn, GoOn}
use Rattle.hpb_board.proofs.Recent.{IsRow, noted_IsRow, blank_IsRow, note_here, note_else, joined_next, blank_at, told_recent, length_answers}

-- the row with one answer more
row_more : (xs : List Answer) (a : Answer) → row_of (xs ++ a ∷ []) ≡ noted (row_of xs) a
row_more xs a = fold-append noted blank xs (a ∷ [])

-- the row of some answers counts them, and has the last 16
along_IsRow : (xs before : List Answer) (r : Row) → length before + length xs < 2 ^ 64 → IsRow r before → IsRow (fold noted r xs) (before ++ xs)
along_IsRow [] before r few is = subst (IsRow r) (sym (append-nil before)) is
along_IsRow (x ∷ xs) before r few is =
    let long = length-append before (x ∷ []) in
    let next = along_IsRow xs (before ++ x ∷ []) (noted r x) (omega (arith, long, few)) (noted_IsRow r before x (omega (arith, few)) is) in
    subst (IsRow (fold noted (noted r x) xs)) (append_assoc before (x ∷ []) xs) next

row_IsRow : (xs : List Answer) → length xs < 2 ^ 64 → IsRow (row_of xs) xs
row_IsRow xs few = along_IsRow xs [] blank (omega (arith, few)) blank_IsRow

-- how many answers both rows have
counts : (r later : Row) (g : GoesOn r later) → (r.count ≡ length g.0) × (later.count ≡ length g.0 + length g.1)
counts r later g =
    let long = length-append g.0 g.1 in
    let few : length g.0 < 2 ^ 64 = omega (arith, long, g.4) in
    (ap (λ (q : Row). q.count) g.2 ∙ (row_IsRow g.0 few).count, ap (λ (q : Row). q.count) g.3 ∙ ((row_IsRow (g.0 ++ g.1) g.4).count ∙ long))

pub goes_up : (r later : Row) → GoesOn r later → r.count ≤ later.count
goes_up r later g = let n = counts r later g in omega (arith, n.0, n.1)

same_by : (r later : Row) (before more : List Answer) → r ≡ row_of before → later ≡ row_of (before ++ more) → length more ≡ 0 → r ≡ later
same_by r later before [] is next none = is ∙ (ap row_of (sym (append-nil before)) ∙ sym next)
same_by r later before (x ∷ xs) is next none = absurd (omega (arith, none))

-- a row that has equally many answers is the same
pub goes_same : (r later : Row) → GoesOn r later → r.count ≡ later.count → r ≡ later
goes_same r later g e = let n = counts r later g in same_by r later g.0 g.1 g.2 g.3 (omega (arith, n.0, n.1, e))

get_next : (before : List Answer) (a : Answer) (more : List Answer) → slice_get (before ++ a ∷ more) (length before) ≡ Some a
get_next [] a more = refl
get_next (x ∷ xs) a more = get_next xs a more

recent_next : (before : List Answer) (a : Answer) (more : List Answer) → length more < 16 → (b : Bool) → nat_lt (length (before ++ a ∷ more)) (length before + 17) ≡ b
    → (if b then slice_get (before ++ a ∷ more) (length before) else None) ≡ Some a
recent_next before a more near true e = get_next before a more
recent_next before a more near false e = let long = length-append before (a ∷ more) in absurd (grind (arith, nat_tests, long))

-- the first new answer, and the row with it
abbrev pub Next : Row → Row → Type 0
Next r later = (a : Answer) × (told later (r.count + 1) ≡ Some a) × GoesOn (noted r a) later × ((noted r a).count ≡ r.count + 1)

next_by : (r later : Row) (before more : List Answer) → r ≡ row_of before → later ≡ row_of (before ++ more) → length (before ++ more) < 2 ^ 64 → r.count ≡ length before → 0 < length more → length more < 17 → Next r later
next_by r later before [] is next few count some near = absurd (omega (arith, some))
next_by r later before (a ∷ more) is next few count some near =
    let all : List Answer = before ++ a ∷ more in
    let long = length-append before (a ∷ more) in
    let one : suc (length before) ≡ r.count + 1 = omega (arith, count) in
    let recent' : recent all (suc (length before)) ≡ Some a = recent_next before a more (omega (arith, near)) (nat_lt (length all) (length before + 17)) refl in
    let said : told later (suc (length before)) ≡ Some a
    = ap (λ (q : Row). told q (suc (length before))) next ∙ (told_recent (row_of all) all (suc (length before)) (row_IsRow all few) ∙ recent') in
    let e : (before ++ a ∷ []) ++ more ≡ all = append_assoc before (a ∷ []) more in (
      a,
      subst (λ (n : ℕ). told later n ≡ Some a) one said,
      (
        before ++ a ∷ [],
        more,
        ap (λ (q : Row). noted q a) is ∙ sym (row_more before a),
        next ∙ ap row_of (sym e),
        subst (λ (l : List Answer). length l < 2 ^ 64) (sym e) few,
      ),
      omega (arith, count, long, few),
    )

-- if fewer than 17 answers are new, the later row has the first of them
pub goes_next : (r later : Row) → GoesOn r later → r.count < later.count → later.count < r.count + 17 → Next r later
goes_next r later g less near =
    let n = counts r later g in next_by r later g.0 g.1 g.2 g.3 g.4 n.0 (omega (arith, n.0, n.1, less)) (omega (arith, n.0, n.1, near))

pub get_dropped : (rows : List Row) (seat : ℕ) → slice_get (drop seat rows) 0 ≡ slice_get rows seat
get_dropped [] zero = refl
get_dropped [] (suc seat) = refl
get_dropped (r ∷ rows) zero = refl
get_dropped (r ∷ rows) (suc seat) = get_dropped rows seat

-- the row of a seat is exactly that of its answers so far
abbrev Is : List Row → ℕ → List Answer → Type 0
Is rs s as' = (r : Row) → slice_get rs s ≡ Some r → r ≡ row_of as'

is_next : (o : Shown) (x : Letter) (s : ℕ) (before : List Answer) → (b : Bool) → (x.seat == s) ≡ b → Is o.rows s before → Is (taken_in o x).rows s (cond b (before ++ answer_in o.auction x ∷ []) before)
is_next o x s before true e is r h =
    let a : Answer = answer_in o.auction x in
    let same : x.seat ≡ s = grind (arith, nat_tests) in
    let there = note_here o.rows s a r (subst (λ (k : ℕ). slice_get (note_at o.rows k a) s ≡ Some r) same h) in
    there.2 ∙ (ap (λ (q : Row). noted q a) (is there.0 there.1) ∙ sym (row_more before a))
is_next o x s before false e is r h =
    let apart : x.seat ≢ s = λ (q : x.seat ≡ s). absurd (grind (arith, nat_tests)) in
    is r (sym (note_else o.rows x.seat s (answer_in o.auction x) apart) ∙ h)

is_along : (xs : List Letter) (o : Shown) (s : ℕ) (before : List Answer) → Is o.rows s before → Is (shown_by o xs).rows s (before ++ answers_to s o.auction xs)
is_along [] o s before is = λ r h. is r h ∙ ap row_of (sym (append-nil before))
is_along (x ∷ xs) o s before is =
    let b : Bool = x.seat == s in
    let a : Answer = answer_in o.auction x in
    let all = is_along xs (taken_in o x) s (cond b (before ++ a ∷ []) before) (is_next o x s before b refl is) in
    λ r h. all r h ∙ ap row_of (joined_next b before (answers_to s (after_letter o.auction x) xs) a)

row_is : (o : Opening) (s : ℕ) (xs : List Letter) (r : Row) → slice_get (shown_by (begun o) xs).rows s ≡ Some r → r ≡ row_of (answers_to s o.auction xs)
row_is o s xs r h = is_along xs (begun o) s [] (λ q at. blank_at o.seats s q at) r h

-- if letters begin other letters, their answers begin the others' answers
answers_more : (s : ℕ) (value : AuctionValue) (xs ys : List Letter) → answers_to s value (xs ++ ys) ≡ answers_to s value xs ++ answers_to s (value_by value xs) ys
answers_more s value xs ys =
    ap (filter (λ (a : Answer). a.letter.seat == s)) (judged_join value xs ys) ∙ filter-append (λ (a : Answer). a.letter.seat == s) (judged_in value xs) (judged_in (value_by value xs) ys)

-- if one list begins another, each row of the second continues that of the first
pub rows_go_on : (o : Opening) (xs ys : List (List Letter)) → IsPrefix xs ys → IsRoomy ys → GoOn (shown_by (begun o) (joined xs)).rows (shown_by (begun o) (joined ys)).rows
rows_go_on o xs ys begins roomy s r r' at at' =
    let before : List Answer = answers_to s o.auction (joined xs) in
    let more : List Answer = answers_to s (value_by o.auction (joined xs)) (joined begins.0) in
    let all : joined ys ≡ joined xs ++ joined begins.0 = ap joined (sym begins.1) ∙ joined_append xs begins.0 in
    let e : answers_to s o.auction (joined ys) ≡ before ++ more = ap (answers_to s o.auction) all ∙ answers_more s o.auction (joined xs) (joined begins.0) in
    let few : length (answers_to s o.auction (joined ys)) < 2 ^ 64 = let n = length_answers s o.auction (joined ys) in let m = roomy s in omega (arith, n, m) in
    (before, more, row_is o s (joined xs) r at, row_is o s (joined ys) r' at' ∙ ap row_of e, subst (λ (l : List Answer). length l < 2 ^ 64) e few)
