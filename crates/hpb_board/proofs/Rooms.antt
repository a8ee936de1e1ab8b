-- Room for more answers.
use Rattle.std.proofs.Common.{Bool, true, false, cond, ◌==◌, ◌≡◌, ℕ, ◌+◌, ◌^◌, ◌<◌, ◌≤◌, ◌⊎◌, zero, suc, List, [], ◌∷◌, ◌++◌, length, slice_get, slice_index_or, Some, refl, ap, sym, subst, ◌∙◌, arith, ⊎_elim, length-append}
use Rattle.std.specs.Prelude.{filter, ◌↔◌}
use Rattle.std.proofs.lemmas.List.{append-nil}
use Rattle.std.proofs.lemmas.List.Elements.{filter-append, All-head, All-tail}
use Rattle.std.proofs.lemmas.Bool.Decides.{nat_tests}
use Rattle.hpb_rules.specs.declared.letter.Letter.{Letter}
use Rattle.hpb_board.specs.declared.board.Opening.{Opening}
use Rattle.hpb_board.specs.declared.row.Row.{Row}
use Rattle.hpb_board.specs.Publication.{tally, HasRoom, IsRoomy, AreSeated}
use Rattle.hpb_rules.specs.Fronts.{joined}
use Rattle.hpb_board.specs.Rows.{shown_by, begun, HaveRoom, blank}
use Rattle.hpb_board.proofs.Later.{}
use Rattle.hpb_rules.proofs.Judged.{joined_append}
use Rattle.hpb_board.proofs.Recent.{rows_fresh, length_answers, length_shown, get_is}

pub tally-append : (s : ℕ) (xs ys : List Letter) → tally s (xs ++ ys) ≡ tally s xs + tally s ys
tally-append s xs ys = ap length (filter-append (λ (l : Letter). l.seat == s) xs ys) ∙ length-append (filter (λ (l : Letter). l.seat == s) xs) (filter (λ (l : Letter). l.seat == s) ys)

-- a number that isn't a seat's has no letter
tally_none : (seats s : ℕ) (xs : List Letter) → AreSeated seats xs → seats ≤ s → tally s xs ≡ 0
tally_none seats s [] all le = refl
tally_none seats s (x ∷ xs) all le =
    let here : x.seat < seats = All-head (λ (l : Letter). l.seat < seats) x xs all in
    by (x.seat == s) refl here (tally_none seats s xs (All-tail (λ (l : Letter). l.seat < seats) x xs all) le)
  where
    by : (b : Bool) → (x.seat == s) ≡ b → x.seat < seats → tally s xs ≡ 0 → length (cond b (x ∷ filter (λ (l : Letter). l.seat == s) xs) (filter (λ (l : Letter). l.seat == s) xs)) ≡ 0
    by true e lt rest = absurd (grind (arith, nat_tests, le))
    by false e lt rest = rest

below_or : (n m : ℕ) → (n < m) ⊎ (m ≤ n)
below_or n m = grind arith

-- a batch for which there is room leaves the list countable
pub roomy_after : (seats : ℕ) (list : List (List Letter)) (letters : List Letter) → IsRoomy list → AreSeated seats letters → HasRoom seats list letters → IsRoomy (list ++ letters ∷ [])
roomy_after seats list letters roomy seated room s =
    let all : joined (list ++ letters ∷ []) ≡ joined list ++ letters = joined_append list (letters ∷ []) ∙ ap (λ (l : List Letter). joined list ++ l) (append-nil letters) in
    subst (λ (l : List Letter). tally s l < 2 ^ 64) (sym all) (⊎_elim (λ (lt : s < seats). room s lt) (λ (le : seats ≤ s). past le) (below_or s seats))
  where
    past : seats ≤ s → tally s (joined list ++ letters) < 2 ^ 64
    past le = omega (arith, tally-append s (joined list) letters, tally_none seats s letters seated le, roomy s)

-- the rows have room exactly if the list has
pub room_is : (rows : List Row) (o : Opening) (list : List (List Letter)) (letters : List Letter) → rows ≡ (shown_by (begun o) (joined list)).rows → IsRoomy list
    → HaveRoom rows letters ↔ HasRoom o.seats list letters
room_is rows o list letters is roomy = (there, back)
  where
    counts : (s : ℕ) (r : Row) → slice_get rows s ≡ Some r → r.count + tally s letters ≡ tally s (joined list ++ letters)
    counts s r at =
        let row = rows_fresh o s (joined list) r (roomy s) (subst (λ (rs : List Row). slice_get rs s ≡ Some r) is at) in
        omega (arith, row.count, length_answers s o.auction (joined list), tally-append s (joined list) letters)

    there : HaveRoom rows letters → HasRoom o.seats list letters
    there have s lt =
        let long : length rows ≡ o.seats = ap length is ∙ length_shown o (joined list) in
        let r : Row = slice_index_or rows s blank in
        let at : slice_get rows s ≡ Some r = get_is rows s blank (omega (arith, long, lt)) in
        omega (arith, counts s r at, have s r at)

    back : HasRoom o.seats list letters → HaveRoom rows letters
    back has s r at =
        let long : length rows ≡ o.seats = ap length is ∙ length_shown o (joined list) in
        let inside : s < length rows = ⊎_elim (λ (lt : s < length rows). lt) (λ (le : length rows ≤ s). absurd (outside rows s r le at)) (below_or s (length rows)) in
        omega (arith, counts s r at, has s (omega (arith, long, inside)))
      where
        outside : (rs : List Row) (k : ℕ) (q : Row) → length rs ≤ k → slice_get rs k ≡ Some q → ⊥
        outside [] k q le e = absurd cc
        outside (x ∷ xs) zero q le e = absurd (omega arith)
        outside (x ∷ xs) (suc k) q le e = outside xs k q (omega arith) e
