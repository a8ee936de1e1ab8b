-- The letters that the intake gathers.
use Rattle.std.proofs.Common.{[], ◌≡◌, ◌≢◌, ℕ, zero, suc, ◌<◌, ◌≤◌, ◌==◌, Bool, true, false, if◌then◌else◌, List, ◌∷◌, ◌++◌, length, map, take, drop, slice_set, slice_index_or, refl, ap, sym, ◌∙◌, arith, append_assoc, All, subst}
use Rattle.std.proofs.lemmas.List.{map-append, append-nil, take_all}
use Rattle.std.proofs.lemmas.List.Elements.{All-append, All-map}
use Rattle.hpb_rules.specs.declared.command.Command.{Command}
use Rattle.hpb_rules.specs.declared.letter.Letter.{Letter}
use Rattle.hpb_rings.specs.declared.slip.Slip.{Slip}
use Rattle.hpb_rings.specs.declared.slip.Slip.TheVariants.{Letter as Post, End}
use Rattle.hpb_rings.specs.Slips.{commands, ends}
use Rattle.hpb_rings.specs.Gathering.{letter_of, Drained, of_seat, gathered, at_seat, halts, told_of}
use Rattle.hpb_rings.specs.declared.ring.Ring.{Ring}
use Rattle.rtrb.specs.Ring.{sent, received}
use Rattle.std.proofs.lemmas.Bool.Decides.{nat_tests}

pub commands-letter : (ss : List Slip) (l : Letter) → commands (ss ++ Post l ∷ []) ≡ commands ss ++ l.command ∷ []
commands-letter [] l = refl
commands-letter (Post k ∷ ss) l = ap (λ (cs : List Command). k.command ∷ cs) (commands-letter ss l)
commands-letter (End ∷ ss) l = commands-letter ss l

pub commands-end : (ss : List Slip) → commands (ss ++ End ∷ []) ≡ commands ss
commands-end [] = refl
commands-end (Post k ∷ ss) = ap (λ (cs : List Command). k.command ∷ cs) (commands-end ss)
commands-end (End ∷ ss) = commands-end ss

pub ends-letter : (ss : List Slip) (l : Letter) → ends (ss ++ Post l ∷ []) ≡ ends ss
ends-letter [] l = refl
ends-letter (Post k ∷ ss) l = ends-letter ss l
ends-letter (End ∷ ss) l = refl

pub ends-end : (ss : List Slip) → ends (ss ++ End ∷ []) ≡ true
ends-end [] = refl
ends-end (Post k ∷ ss) = ends-end ss
ends-end (End ∷ ss) = refl

pub ruleset slip_lemmas = (commands-letter, commands-end, ends-letter, ends-end)

pub drained-none : (seat : ℕ) (p : List Command) (ls : List Letter) → Drained seat p p ls ls
drained-none seat p ls = ([], sym (append-nil p), sym (append-nil ls))

pub drained-one : (seat : ℕ) (p q q' : List Command) (ks ls ls' : List Letter) (c : Command) → Drained seat p q ks ls → q' ≡ q ++ c ∷ [] → ls' ≡ ls ++ letter_of seat c ∷ [] → Drained seat p q' ks ls'
drained-one seat p q q' ks ls ls' c h e f = (
  h.0 ++ c ∷ [],
  e ∙ (ap (λ (x : List Command). x ++ c ∷ []) h.1 ∙ append_assoc p h.0 (c ∷ [])),
  f ∙ (ap (λ (x : List Letter). x ++ letter_of seat c ∷ []) h.2 ∙ (append_assoc ks (map (letter_of seat) h.0) (letter_of seat c ∷ []) ∙ ap (λ (x : List Letter). ks ++ x) (sym (map-append (letter_of seat) h.0 (c ∷ []))))),
)

pub drained-same : (seat : ℕ) (p q q' : List Command) (ks ls : List Letter) → Drained seat p q ks ls → q' ≡ q → Drained seat p q' ks ls
drained-same seat p q q' ks ls h e = (h.0, e ∙ h.1, h.2)

-- the letters of a seat in a batch to which letters of one seat were added
seat-append : (s : ℕ) (xs ys : List Letter) (x : Letter) (b : Bool) → (x.seat == s) ≡ b → of_seat s (xs ++ ys) ≡ of_seat s xs ++ of_seat s ys → of_seat s (x ∷ (xs ++ ys)) ≡ of_seat s (x ∷ xs) ++ of_seat s ys
seat-append s xs ys x true e h = rw e (ap (λ (cs : List Command). x.command ∷ cs) h)
seat-append s xs ys x false e h = rw e h

pub of_seat-append : (s : ℕ) (xs ys : List Letter) → of_seat s (xs ++ ys) ≡ of_seat s xs ++ of_seat s ys
of_seat-append s [] ys = refl
of_seat-append s (x ∷ xs) ys = seat-append s xs ys x (x.seat == s) refl (of_seat-append s xs ys)

of_seat-here : (s : ℕ) (cs : List Command) → (s == s) ≡ true → of_seat s (map (letter_of s) cs) ≡ cs
of_seat-here s [] e = refl
of_seat-here s (c ∷ cs) e = rw e (ap (λ (l : List Command). c ∷ l) (of_seat-here s cs e))

of_seat-else : (k s : ℕ) (cs : List Command) → (k == s) ≡ false → of_seat s (map (letter_of k) cs) ≡ []
of_seat-else k s [] e = refl
of_seat-else k s (c ∷ cs) e = rw e (of_seat-else k s cs e)

-- the letters of a seat below n are of seats below n
drained_seats : (k n : ℕ) (cs : List Command) → k < n → All (λ x. x.seat < n) (map (letter_of k) cs)
drained_seats k n cs h = All-map (λ x. x.seat < n) (letter_of k) cs (λ i d lt. h)

pub drained-seats : (k n : ℕ) (p q : List Command) (ls ls' : List Letter) → k < n → Drained k p q ls ls' → All (λ x. x.seat < n) ls → All (λ x. x.seat < n) ls'
drained-seats k n p q ls ls' h got all = subst (λ (l : List Letter). All (λ x. x.seat < n) l) (sym got.2) (All-append (λ x. x.seat < n) ls (map (letter_of k) got.0) all (drained_seats k n got.0 h))

-- one more place was changed
mapped-next : {A B : Type 0} (f h : A → B) (i : ℕ) (rs olds : List A) (y d : A) → i < length rs → map f (take i rs) ≡ map h (take i olds) → drop i rs ≡ drop i olds
    → f y ≡ h (slice_index_or rs i d) → (map f (take (suc i) (slice_set rs i y)) ≡ map h (take (suc i) olds)) × (drop (suc i) (slice_set rs i y) ≡ drop (suc i) olds)
mapped-next f h i [] olds y d lt was left told = absurd (omega arith)
mapped-next f h zero (r ∷ rs) [] y d lt was left told = absurd (cc left)
mapped-next f h zero (r ∷ rs) (o ∷ olds) y d lt was left told =
    let one : r ≡ o = cc left in
    let rest : rs ≡ olds = cc left in
    (ap (λ l. l ∷ []) (told ∙ ap h one), rest)
mapped-next f h (suc i) (r ∷ rs) [] y d lt was left told = absurd (cc was)
mapped-next f h (suc i) (r ∷ rs) (o ∷ olds) y d lt was left told =
    let one : f r ≡ h o = cc was in
    let n = mapped-next f h i rs olds y d (omega arith) (cc was) left told in
    (ap (λ l. l ∷ map f (take (suc i) (slice_set rs i y))) one ∙ ap (λ l. h o ∷ l) n.0, n.1)

-- the same, by the item that was at the place
pub mapped-on : {A B : Type 0} (f h : A → B) (i : ℕ) (rs olds : List A) (y d : A) → i < length rs → map f (take i rs) ≡ map h (take i olds) → drop i rs ≡ drop i olds
    → f y ≡ h d → d ≡ slice_index_or rs i d → (map f (take (suc i) (slice_set rs i y)) ≡ map h (take (suc i) olds)) × (drop (suc i) (slice_set rs i y) ≡ drop (suc i) olds)
mapped-on f h i rs olds y d lt was left told at = mapped-next f h i rs olds y d lt was left (told ∙ ap h at)

module _ {M : Type 0} where
  at_seat-here : (rs : List (Ring M)) (k : ℕ) (y d : Ring M) → k < length rs → at_seat (gathered (slice_set rs k y)) k ≡ commands (received y.letters)
  at_seat-here [] k y d h = absurd (omega arith)
  at_seat-here (r ∷ rs) zero y d h = refl
  at_seat-here (r ∷ rs) (suc k) y d h = at_seat-here rs k y d (omega arith)

  at_seat-is : (rs : List (Ring M)) (k : ℕ) (d : Ring M) → k < length rs → at_seat (gathered rs) k ≡ commands (received (slice_index_or rs k d).letters)
  at_seat-is [] k d h = absurd (omega arith)
  at_seat-is (r ∷ rs) zero d h = refl
  at_seat-is (r ∷ rs) (suc k) d h = at_seat-is rs k d (omega arith)

  at_seat-else : (rs : List (Ring M)) (k s : ℕ) (y : Ring M) → k ≢ s → at_seat (gathered (slice_set rs k y)) s ≡ at_seat (gathered rs) s
  at_seat-else [] k s y h = refl
  at_seat-else (r ∷ rs) zero zero y h = absurd (h refl)
  at_seat-else (r ∷ rs) zero (suc s) y h = refl
  at_seat-else (r ∷ rs) (suc k) zero y h = refl
  at_seat-else (r ∷ rs) (suc k) (suc s) y h = at_seat-else rs k s y (λ e. h (ap suc e))

  pub halts-same : (rs : List (Ring M)) (k : ℕ) (y d : Ring M) → y.halts ≡ (slice_index_or rs k d).halts → halts (slice_set rs k y) ≡ halts rs
  halts-same [] k y d e = refl
  halts-same (r ∷ rs) zero y d e = ap (λ m. sent m ∷ halts rs) e
  halts-same (r ∷ rs) (suc k) y d e = ap (λ (l : List (List M)). sent r.halts ∷ l) (halts-same rs k y d e)

  -- the batch has the letters of every ring, also after one more ring was drained
  poured_at : (rs : List (Ring M)) (olds : List (List Command)) (k : ℕ) (y d : Ring M) (ls ls' : List Letter) → k < length rs
      → Drained k (commands (received (slice_index_or rs k d).letters)) (commands (received y.letters)) ls ls'
      → (s : ℕ) → at_seat (gathered rs) s ≡ at_seat olds s ++ of_seat s ls
      → (b : Bool) → (k == s) ≡ b
      → at_seat (gathered (slice_set rs k y)) s ≡ at_seat olds s ++ of_seat s ls'
  poured_at rs olds k y d ls ls' h got s each true e =
      let same : k ≡ s = grind (arith, nat_tests) in
      let e' : (s == s) ≡ true = subst (λ (j : ℕ). (j == s) ≡ true) same e in
      let cs : List Command = got.0 in
      let more : of_seat s ls' ≡ of_seat s ls ++ cs = ap (of_seat s) got.2 ∙ (of_seat-append s ls (map (letter_of k) cs) ∙ ap (λ (x : List Command). of_seat s ls ++ x) (ap (λ (j : ℕ). of_seat s (map (letter_of j) cs)) same ∙ of_seat-here s cs e')) in
      let was : commands (received (slice_index_or rs k d).letters) ≡ at_seat olds s ++ of_seat s ls = sym (at_seat-is rs k d h) ∙ (ap (at_seat (gathered rs)) same ∙ each) in
      ap (at_seat (gathered (slice_set rs k y))) (sym same) ∙ (at_seat-here rs k y d h ∙ (got.1 ∙ (ap (λ (x : List Command). x ++ cs) was ∙ (append_assoc (at_seat olds s) (of_seat s ls) cs ∙ ap (λ (x : List Command). at_seat olds s ++ x) (sym more)))))
  poured_at rs olds k y d ls ls' h got s each false e =
      let apart : k ≢ s = λ (q : k ≡ s). absurd (grind (arith, nat_tests)) in
      let cs : List Command = got.0 in
      let more : of_seat s ls' ≡ of_seat s ls = ap (of_seat s) got.2 ∙ (of_seat-append s ls (map (letter_of k) cs) ∙ (ap (λ (x : List Command). of_seat s ls ++ x) (of_seat-else k s cs e) ∙ append-nil (of_seat s ls))) in
      at_seat-else rs k s y apart ∙ (each ∙ ap (λ (x : List Command). at_seat olds s ++ x) (sym more))

  pub poured : (rs : List (Ring M)) (olds : List (List Command)) (k : ℕ) (y d : Ring M) (ls ls' : List Letter) → k < length rs
      → Drained k (commands (received (slice_index_or rs k d).letters)) (commands (received y.letters)) ls ls'
      → ((s : ℕ) → at_seat (gathered rs) s ≡ at_seat olds s ++ of_seat s ls)
      → (s : ℕ) → at_seat (gathered (slice_set rs k y)) s ≡ at_seat olds s ++ of_seat s ls'
  poured rs olds k y d ls ls' h got each s = poured_at rs olds k y d ls ls' h got s (each s) (k == s) refl

  gathered-same : (rs : List (Ring M)) (k : ℕ) (y d : Ring M) → received y.letters ≡ received (slice_index_or rs k d).letters → gathered (slice_set rs k y) ≡ gathered rs
  gathered-same [] k y d e = refl
  gathered-same (r ∷ rs) zero y d e = ap (λ (slips : List Slip). commands slips ∷ gathered rs) e
  gathered-same (r ∷ rs) (suc k) y d e = ap (λ (l : List (List Command)). commands (received r.letters) ∷ l) (gathered-same rs k y d e)

  -- if a ring keeps its own letters, the gathered ones stay
  pub gathered-on : (rs : List (Ring M)) (k : ℕ) (y d : Ring M) (all : List (List Command)) → received y.letters ≡ received (slice_index_or rs k d).letters → gathered rs ≡ all → gathered (slice_set rs k y) ≡ all
  gathered-on rs k y d all e was = gathered-same rs k y d e ∙ was

  once_or : (m : M) (xs : List M) (b : Bool) → length xs ≡ (if b then 1 else 0) → length (if b then xs else xs ++ m ∷ []) ≡ 1
  once_or m xs true e = e
  once_or m [] false e = refl
  once_or m (x ∷ xs) false e = absurd (omega arith)

  -- a seat that was sent a halt was sent it once
  pub told-once : (m : M) (rs olds : List (Ring M)) → halts rs ≡ map (told_of m) olds → (k : ℕ) (d : Ring M) → k < length rs → length (sent (slice_index_or rs k d).halts) ≡ 1
  told-once m [] olds e k d h = absurd (omega arith)
  told-once m (r ∷ rs) [] e k d h = absurd (cc e)
  told-once m (r ∷ rs) (o ∷ olds) e zero d h = let one : sent r.halts ≡ told_of m o = cc e in ap length one ∙ once_or m (sent o.halts) o.is_told o.once
  told-once m (r ∷ rs) (o ∷ olds) e (suc k) d h = told-once m rs olds (cc e) k d (omega arith)

  pub all-told : (m : M) (n : ℕ) (rs olds : List (Ring M)) → halts (take n rs) ≡ map (told_of m) (take n olds) → length rs ≤ n → length olds ≤ n → (k : ℕ) (d : Ring M) → k < length rs → length (sent (slice_index_or rs k d).halts) ≡ 1
  all-told m n rs olds e h h' = told-once m rs olds (ap halts (sym (take_all n rs h)) ∙ (e ∙ ap (map (told_of m)) (take_all n olds h')))
