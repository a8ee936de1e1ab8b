-- The facts that a later view keeps.
use Rattle.std.proofs.Common.{◌≡◌, ℕ, zero, suc, ◌≤◌, ◌==◌, take, length, arith, List, [], ◌∷◌, ◌++◌, refl, ap, sym, ◌∙◌, append_assoc}
use Rattle.std.specs.Prelude.{filter}
use Rattle.std.proofs.lemmas.List.Elements.{filter-append}
use mathlib.Core.List.{IsPrefix}
use Rattle.hpb_rules.specs.declared.letter.Answer.{Answer}
use Rattle.hpb_rules.specs.declared.letter.Letter.{Letter}
use Rattle.hpb_rules.specs.AuctionValue.{AuctionValue}
use Rattle.hpb_rules.specs.Values.{next_value}
use Rattle.hpb_rules.specs.Judging.{answer_in, judged_in, value_by}
use Rattle.hpb_board.specs.Publication.{answers_to, answers_of, Viewing}
use Rattle.hpb_rules.specs.Fronts.{joined}
use Rattle.hpb_rules.proofs.Judged.{joined_append, judged_join}

answers-append : (seat : ℕ) (value : AuctionValue) (xs ys : List (List Letter)) → answers_to seat value (joined (xs ++ ys)) ≡ answers_to seat value (joined xs) ++ answers_to seat (value_by value (joined xs)) (joined ys)
answers-append seat value xs ys =
    ap (answers_to seat value) (joined_append xs ys)
    ∙ (ap (filter (λ (a : Answer). a.letter.seat == seat)) (judged_join value (joined xs) (joined ys))
    ∙ filter-append (λ (a : Answer). a.letter.seat == seat) (judged_in value (joined xs)) (judged_in (value_by value (joined xs)) (joined ys)))

-- a seat's answers begin its answers in a later view
pub answers-later : (v w : Viewing) → w.opened ≡ v.opened → IsPrefix v.list w.list → (seat : ℕ) → IsPrefix (answers_of seat v) (answers_of seat w)
answers-later v w same later seat = (
  answers_to seat (value_by v.opened (joined v.list)) (joined later.0),
  sym (answers-append seat v.opened v.list later.0) ∙ (ap (λ (l : List (List Letter)). answers_to seat v.opened (joined l)) later.1 ∙ ap (λ (o : AuctionValue). answers_to seat o (joined w.list)) (sym same)),
)

pub ruleset later = (answers-later)

-- the answers taken from a list are the same in a longer one
pub taken-later : (n : ℕ) (xs ys : List Answer) → IsPrefix xs ys → n ≤ length xs → take n ys ≡ take n xs
taken-later zero xs ys p le = refl
taken-later (suc n) [] ys p le = absurd (omega arith)
taken-later (suc n) (x ∷ xs) [] p le = absurd (cc (p.1))
taken-later (suc n) (x ∷ xs) (y ∷ ys) p le =
    let heads : x ≡ y = cc (p.1) in
    let rest = taken-later n xs ys (p.0, cc (p.1)) (omega arith) in cc (heads, rest)

pub longer-later : (n : ℕ) (xs ys : List Answer) → IsPrefix xs ys → n ≤ length xs → n ≤ length ys
longer-later zero xs ys p le = omega arith
longer-later (suc n) [] ys p le = absurd (omega arith)
longer-later (suc n) (x ∷ xs) [] p le = absurd (cc (p.1))
longer-later (suc n) (x ∷ xs) (y ∷ ys) p le = let rest = longer-later n xs ys (p.0, cc (p.1)) (omega arith) in omega (arith, rest)
