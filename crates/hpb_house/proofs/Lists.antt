-- Lists of reports in a loop over their places.
use Rattle.std.proofs.Common.{◌≡◌, ℕ, zero, suc, ◌<◌, List, [], ◌∷◌, length, map, slice_set, slice_index_or, refl, sym, ap, subst, ◌∙◌, arith, All}
use Rattle.std.specs.Prelude.{AllPairs}
use Rattle.std.proofs.lemmas.List.{length-map}
use mathlib.Core.List.{IsPrefix}
use Rattle.hpb_rules.proofs.Prefixes.{prefix_self}

-- a map stays the same if an element is replaced by one with the same value
pub map-set : {A B : Type 0} (f : A → B) (xs : List A) (i : ℕ) (y d : A) → f y ≡ f (slice_index_or xs i d) → map f (slice_set xs i y) ≡ map f xs
map-set f [] i y d e = refl
map-set f (x ∷ xs) zero y d e = ap (λ b. b ∷ map f xs) e
map-set f (x ∷ xs) (suc i) y d e = ap (λ bs. f x ∷ bs) (map-set f xs i y d e)

-- a fact that holds of each element before a place, and of the one there, holds up to that place
pub each-next : {A : Type 0} (P : A → Type 0) (xs : List A) (i : ℕ) (e : A) → i < length xs → ((k : ℕ) (d : A) → k < i → P (slice_index_or xs k d)) → P (slice_index_or xs i e) → (k : ℕ) (d : A) → k < suc i → P (slice_index_or xs k d)
each-next P [] i e lt h p k d le = absurd (omega arith)
each-next P (x ∷ xs) zero e lt h p zero d le = p
each-next P (x ∷ xs) zero e lt h p (suc k) d le = absurd (omega arith)
each-next P (x ∷ xs) (suc i) e lt h p zero d le = h zero d (omega arith)
each-next P (x ∷ xs) (suc i) e lt h p (suc k) d le = each-next P xs i e (omega arith) (λ j f l. h (suc j) f (omega (arith, l))) p k d (omega arith)

-- if an element is replaced by one with a longer list, each list begins with its earlier one
pub grew-set : {A C : Type 0} (f : A → List C) (xs : List A) (i : ℕ) (y d : A) → IsPrefix (f (slice_index_or xs i d)) (f y) → i < length xs
    → (k : ℕ) (e : A) → IsPrefix (f (slice_index_or xs k e)) (f (slice_index_or (slice_set xs i y) k e))
grew-set f [] i y d p lt k e = prefix_self (f (slice_index_or [] k e))
grew-set f (x ∷ xs) zero y d p lt zero e = p
grew-set f (x ∷ xs) zero y d p lt (suc k) e = prefix_self (f (slice_index_or xs k e))
grew-set f (x ∷ xs) (suc i) y d p lt zero e = prefix_self (f x)
grew-set f (x ∷ xs) (suc i) y d p lt (suc k) e = grew-set f xs i y d p (omega (arith, lt)) k e

-- equal maps have equal values at each place
pub map-place : {A B : Type 0} (f : A → B) (xs ys : List A) → map f xs ≡ map f ys → (k : ℕ) (d : A) → f (slice_index_or xs k d) ≡ f (slice_index_or ys k d)
map-place f [] [] e k d = refl
map-place f [] (y ∷ ys) e k d = absurd (cc e)
map-place f (x ∷ xs) [] e k d = absurd (cc e)
map-place f (x ∷ xs) (y ∷ ys) e zero d = let one : f x ≡ f y = cc e in one
map-place f (x ∷ xs) (y ∷ ys) e (suc k) d = map-place f xs ys (cc e) k d

pub map-length : {A B : Type 0} (f : A → B) (xs ys : List A) → map f xs ≡ map f ys → length xs ≡ length ys
map-length f xs ys e = sym (length-map xs f) ∙ (ap length e ∙ length-map ys f)

-- a fact about the values of a map holds of the other list too, if the maps are equal
pub map-each : {A B : Type 0} (f : A → B) (P : B → Type 0) (xs ys : List A) → map f xs ≡ map f ys → All (λ a. P (f a)) ys → All (λ a. P (f a)) xs
map-each f P xs ys e all k d lt = subst P (sym (map-place f xs ys e k d)) (all k d (omega (arith, lt, map-length f xs ys e)))

-- values that differ pairwise differ in the other list too, if the maps are equal
pub map-pairs : {A B : Type 0} (f : A → B) (g : B → ℕ) (xs ys : List A) → map f xs ≡ map f ys → AllPairs (λ a b. g (f a) ≡ g (f b) → ⊥) ys → AllPairs (λ a b. g (f a) ≡ g (f b) → ⊥) xs
map-pairs f g xs ys e apart i j d lt le same =
    let long = map-length f xs ys e in
    apart i j d lt (omega (arith, le, long)) (ap g (sym (map-place f xs ys e i d)) ∙ (same ∙ ap g (map-place f xs ys e j d)))
