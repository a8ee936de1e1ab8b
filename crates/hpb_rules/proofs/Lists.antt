-- Lists and their fronts: steps that other crates' proofs cite too.
use Rattle.std.proofs.Common.{◌≡◌, ◌⊎◌, inl, inr, ℕ, zero, suc, Bool, true, false, ◌||◌, List, [], ◌∷◌, ◌++◌, get_or, replicate, take, drop, reverse, Some, length, refl, ap, ◌∙◌, arith, append_assoc}
use Rattle.std.specs.Prelude.{slice_get, All}
use Rattle.std.proofs.lemmas.List.{take-append-le, reverse-append}
use Rattle.hpb_rules.specs.Fronts.{IsFront}

pub all_cons : {A : Type 0} (P : A → Type 0) (x : A) (xs : List A) → P x → All P xs → All P (x ∷ xs)
all_cons P x xs p all zero d h = p
all_cons P x xs p all (suc k) d h = all k d (omega arith)

-- a list of one item reads as that item within and beyond it
pub get_or-replicate_same : {A : Type 0} (count place : ℕ) (item : A) → get_or (replicate count item) place item ≡ item
get_or-replicate_same zero place item = refl
get_or-replicate_same (suc count) zero item = refl
get_or-replicate_same (suc count) (suc place) item = get_or-replicate_same count place item

pub append_nil : {A : Type 0} (xs : List A) → xs ≡ xs ++ []
append_nil [] = refl
append_nil (x ∷ xs) = ap (λ ys. x ∷ ys) (append_nil xs)

pub take_seam : {A : Type 0} (xs ys : List A) → take (length xs) (xs ++ ys) ≡ xs
take_seam xs ys = take-append-le (length xs) xs ys (omega arith) ∙ whole xs
  where
    whole : {A : Type 0} (xs : List A) → take (length xs) xs ≡ xs
    whole [] = refl
    whole (x ∷ xs) = ap (λ ys. x ∷ ys) (whole xs)

pub get_seam : {A : Type 0} (xs ys : List A) (y : A) → slice_get (xs ++ y ∷ ys) (length xs) ≡ Some y
get_seam [] ys y = refl
get_seam (x ∷ xs) ys y = get_seam xs ys y

pub get_front : {A : Type 0} (xs ys : List A) (i : ℕ) (x : A) → slice_get xs i ≡ Some x → slice_get (xs ++ ys) i ≡ Some x
get_front [] ys i x e = absurd (cc)
get_front (z ∷ xs) ys zero x e = e
get_front (z ∷ xs) ys (suc i) x e = get_front xs ys i x e

pub front_self : {A : Type 0} (xs : List A) → IsFront xs xs
front_self xs = ([], append_nil xs)

pub front_trans : {A : Type 0} (xs ys zs : List A) → IsFront xs ys → IsFront ys zs → IsFront xs zs
front_trans xs ys zs a b = (a.0 ++ b.0, b.1 ∙ ap (λ l. l ++ b.0) a.1 ∙ append_assoc xs a.0 b.0)

-- an item of a list with one more at its end is an item of the list, or that one
pub get_push : {A : Type 0} (xs : List A) (y : A) (i : ℕ) (x : A) → slice_get (xs ++ y ∷ []) i ≡ Some x → (slice_get xs i ≡ Some x) ⊎ (x ≡ y)
get_push [] y zero x e = let same : x ≡ y = cc in inr same
get_push [] y (suc i) x e = absurd (cc)
get_push (z ∷ xs) y zero x e = inl e
get_push (z ∷ xs) y (suc i) x e = get_push xs y i x e

-- cutting a list in two at one of its items
pub split_at : {A : Type 0} (xs : List A) (i : ℕ) (x : A) → slice_get xs i ≡ Some x → xs ≡ take i xs ++ x ∷ drop (suc i) xs
split_at [] i x e = absurd (cc)
split_at (z ∷ xs) zero x e = let same : z ≡ x = cc in ap (λ y. y ∷ xs) same
split_at (z ∷ xs) (suc i) x e = ap (λ ys. z ∷ ys) (split_at xs i x e)

pub reverse_seam : {A : Type 0} (xs ys : List A) (y : A) → reverse (xs ++ y ∷ ys) ≡ reverse ys ++ y ∷ reverse xs
reverse_seam xs ys y = reverse-append xs (y ∷ ys) ∙ ap (λ zs. zs ++ reverse xs) (reverse-append (y ∷ []) ys) ∙ append_assoc (reverse ys) (y ∷ []) (reverse xs)

pub one_of : {A : Type 0} (P : A → Type 0) (x : A) → P x → All P (x ∷ [])
one_of P x h zero d lt = h
one_of P x h (suc i) d lt = absurd (omega arith)

pub take_front : {A : Type 0} (n : ℕ) (xs : List A) → IsFront (take n xs) xs
take_front zero xs = (xs, refl)
take_front (suc n) [] = ([], refl)
take_front (suc n) (x ∷ xs) = let rest = take_front n xs in (rest.0, ap (λ ys. x ∷ ys) rest.1)

pub or_false : (b : Bool) → (b || false) ≡ b
or_false true = refl
or_false false = refl

pub or_true : (b : Bool) → (b || true) ≡ true
or_true true = refl
or_true false = refl
