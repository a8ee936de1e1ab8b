-- The answers that a client takes.
use Rattle.std.proofs.Common.{inl, inr, ◌≡◌, ℕ, zero, suc, ◌+◌, ◌<◌, ◌≤◌, Bool, true, false, nat_lt, if◌then◌else◌, List, [], ◌∷◌, ◌++◌, length, take, Some, None, slice_get, slice_index_or, refl, ap, sym, ◌∙◌, arith, add-one, append_assoc}
use Rattle.std.specs.Prelude.{◌⊎◌}
use Rattle.std.specs.List.{remove}
use Rattle.std.proofs.lemmas.List.{map-append, length-append, append-nil}
use Rattle.hpb_rules.specs.declared.letter.Letter.{Letter}
use Rattle.hpb_rules.specs.declared.letter.Answer.{Answer}
use Rattle.hpb_rules.specs.Letters.{is_answer_new, new_commands}
use Rattle.hpb_board.specs.Publication.{recent}
use Rattle.hpb_rings.specs.declared.waiting.Waiting.{Waiting}
use Rattle.hpb_rings.specs.declared.slip.Slip.{Slip}
use Rattle.hpb_rings.specs.declared.slip.Slip.TheVariants.{Letter as Post, End}
use Rattle.hpb_rings.specs.Taking.{posted, slips, newly}
use Rattle.hpb_rules.specs.Judging.{letters_of}
use Rattle.hpb_rules.proofs.Judged.{new_join}

is_recent : (ans : List Answer) (n : ℕ) (a : Answer) (b : Bool) → (if b then slice_get ans n else None) ≡ Some a → slice_get ans n ≡ Some a
is_recent ans n a true h = h
is_recent ans n a false h = absurd cc

pub recent_is : (ans : List Answer) (n : ℕ) (a : Answer) → recent ans (n + 1) ≡ Some a → slice_get ans n ≡ Some a
recent_is ans n a h = is_recent ans n a (nat_lt (length ans) (n + 17)) (ap (recent ans) (sym (add-one n)) ∙ h)

pub take-next : (n : ℕ) (ans : List Answer) (a : Answer) → slice_get ans n ≡ Some a → take (suc n) ans ≡ take n ans ++ a ∷ []
take-next n [] a h = absurd cc
take-next zero (x ∷ xs) a h = let e : x ≡ a = cc in ap (λ (y : Answer). y ∷ []) e
take-next (suc n) (x ∷ xs) a h = ap (λ (l : List Answer). x ∷ l) (take-next n xs a h)

pub there-next : (n : ℕ) (ans : List Answer) (a : Answer) → slice_get ans n ≡ Some a → n < length ans
there-next n [] a h = absurd cc
there-next zero (x ∷ xs) a h = omega arith
there-next (suc n) (x ∷ xs) a h = let r = there-next n xs a h in omega arith

newly-append : (xs ys : List Answer) → newly (xs ++ ys) ≡ newly xs + newly ys
newly-append xs ys = ap length (new_join xs ys) ∙ length-append (new_commands xs) (new_commands ys)

pub newly-next : (n : ℕ) (ans : List Answer) (a : Answer) → slice_get ans n ≡ Some a → newly (take (n + 1) ans) ≡ newly (take n ans) + newly (a ∷ [])
newly-next n ans a h =
    let next : take (n + 1) ans ≡ take n ans ++ a ∷ [] = ap (λ (k : ℕ). take k ans) (add-one n) ∙ take-next n ans a h in
    ap newly next ∙ newly-append (take n ans) (a ∷ [])

one-most : (a : Answer) (b : Bool) → is_answer_new a ≡ b → newly (a ∷ []) ≤ 1
one-most a true e = rw e (omega arith)
one-most a false e = rw e (omega arith)

pub newly-most : (n : ℕ) (ans : List Answer) → newly (take n ans) ≤ n
newly-most zero ans = omega arith
newly-most (suc n) [] = omega arith
newly-most (suc n) (x ∷ xs) =
    let r = newly-most n xs in
    let m = one-most x (is_answer_new x) refl in
    let both = newly-append (x ∷ []) (take n xs) in omega (arith, r, m, both)

pub took : (n : ℕ) (ans : List Answer) (a : Answer) (ws : List Waiting) (d : Waiting) (xs : List Slip) → slice_get ans n ≡ Some a → 0 < length ws → (slice_index_or ws 0 d).letter ≡ a.letter
    → xs ≡ slips (letters_of (take n ans) ++ posted ws) → xs ≡ slips (letters_of (take (n + 1) ans) ++ posted (remove ws 0))
took n ans a [] d xs at some same is = absurd (omega arith)
took n ans a (w ∷ ws) d xs at some same is =
    let front : List Letter = letters_of (take n ans) in
    let next : take (n + 1) ans ≡ take n ans ++ a ∷ [] = ap (λ (k : ℕ). take k ans) (add-one n) ∙ take-next n ans a at in
    let grown : letters_of (take (n + 1) ans) ≡ front ++ a.letter ∷ [] = ap letters_of next ∙ map-append (λ (b : Answer). b.letter) (take n ans) (a ∷ []) in
    is ∙ ap slips (ap (λ (x : Letter). front ++ x ∷ posted ws) same ∙ (sym (append_assoc front (a.letter ∷ []) (posted ws)) ∙ ap (λ (l : List Letter). l ++ posted ws) (sym grown)))

taken_first : (n : ℕ) (ans : List Answer) (ws : List Waiting) → n ≤ length ans → take n (slips (letters_of (take n ans) ++ posted ws) ++ End ∷ []) ≡ slips (letters_of (take n ans))
taken_first zero ans ws le = refl
taken_first (suc n) [] ws le = absurd (omega arith)
taken_first (suc n) (x ∷ xs) ws le = ap (λ (l : List Slip). Post x.letter ∷ l) (taken_first n xs ws (omega arith))

-- the letters sent, with the end mark behind them, begin with the letters of the answers taken
pub in-order : (n : ℕ) (ans : List Answer) (ws : List Waiting) (xs ys : List Slip) → xs ≡ slips (letters_of (take n ans) ++ posted ws) → n ≤ length ans
    → ys ≡ xs ++ End ∷ [] → take n ys ≡ slips (letters_of (take n ans))
in-order n ans ws xs ys is le end = ap (take n) (end ∙ ap (λ (l : List Slip). l ++ End ∷ []) is) ∙ taken_first n ans ws le

-- and if no letter waits, they are exactly these
pub whole : (n : ℕ) (ans : List Answer) (ws : List Waiting) (xs ys : List Slip) (halted : Bool) → xs ≡ slips (letters_of (take n ans) ++ posted ws)
    → (ws ≡ []) ⊎ (halted ≡ true) → ys ≡ xs ++ End ∷ [] → halted ≡ false → ys ≡ slips (letters_of (take n ans)) ++ End ∷ []
whole n ans ws xs ys halted is (inl none) end not =
    let all : letters_of (take n ans) ++ posted ws ≡ letters_of (take n ans) = ap (λ (l : List Waiting). letters_of (take n ans) ++ posted l) none ∙ append-nil (letters_of (take n ans)) in
    end ∙ (ap (λ (l : List Slip). l ++ End ∷ []) is ∙ ap (λ (l : List Letter). slips l ++ End ∷ []) all)
whole n ans ws xs ys halted is (inr told) end not = absurd (cc (told, not))
