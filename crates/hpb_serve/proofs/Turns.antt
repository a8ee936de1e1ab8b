-- Lists that a loop walks through, one element a turn.
use Rattle.std.proofs.Common.{[], ◌≡◌, ◌∙◌, zero, suc, List, ◌∷◌, ◌++◌, length, map, arith, All, Contains, Option, Some, None, IfSome, true, refl, sym, ap, subst}
use Rattle.std.specs.declared.vec.IntoIter.{IntoIter}
use Rattle.std.specs.Vec.Iter.{into_iter_items, into_iter_steps}
use Rattle.std.proofs.lemmas.List.{append-nil, append_assoc, map-append}
use Rattle.std.specs.Option.{is_some}
use Rattle.std.proofs.lemmas.List.Elements.{Contains-append_right}
use Rattle.hpb_house.specs.Starts.{AreOneByOne}

-- a fact about each element that is to come holds of the next
pub next_of : {A Z : Type 0} (P : A → Type 0) (s t : IntoIter A Z) (x : A) → All P (into_iter_items s) → into_iter_steps s (Some x) t → P x
next_of P s t x all steps = let h : All P (x ∷ into_iter_items t) = subst (All P) steps.0 all in h zero x (omega arith)

-- and of those after it
pub rest_of : {A Z : Type 0} (P : A → Type 0) (s t : IntoIter A Z) (x : A) → All P (into_iter_items s) → into_iter_steps s (Some x) t → All P (into_iter_items t)
rest_of P s t x all steps k d lt = let h : All P (x ∷ into_iter_items t) = subst (All P) steps.0 all in h (suc k) d (omega arith)

-- the values made so far and those of the elements to come are one list, and it stays if one more is made of the next
pub one_more : {A B C Z : Type 0} (f : A → C) (g : B → C) (whole : List C) (made : List A) (more : A) (s t : IntoIter B Z) (x : B)
    → map f made ++ map g (into_iter_items s) ≡ whole → into_iter_steps s (Some x) t → f more ≡ g x
    → map f (made ++ more ∷ []) ++ map g (into_iter_items t) ≡ whole
one_more f g whole made more s t x is steps same =
    ap (λ front. front ++ map g (into_iter_items t)) (map-append f made (more ∷ []))
    ∙ append_assoc (map f made) (f more ∷ []) (map g (into_iter_items t))
    ∙ ap (λ one. map f made ++ one ∷ map g (into_iter_items t)) same
    ∙ ap (λ items. map f made ++ map g items) (sym steps.0)
    ∙ is

-- the value of the next element is on that list
pub among : {A B C Z : Type 0} (f : A → C) (g : B → C) (whole : List C) (made : List A) (s t : IntoIter B Z) (x : B)
    → map f made ++ map g (into_iter_items s) ≡ whole → into_iter_steps s (Some x) t → Contains whole (g x)
among f g whole made s t x is steps =
    subst (λ l. Contains l (g x)) is (Contains-append_right (map f made) (map g (into_iter_items s)) (g x)
    (subst (λ items. Contains (map g items) (g x)) (sym steps.0) (zero, omega arith, refl)))

-- the pairs so far, with those of the elements to come, are all
pub one_joined : {A B C Z : Type 0} (has : A → B → Type 0) (f : C → A) (whole : List A) (made : List B) (one : B) (s t : IntoIter C Z) (x : C)
    → ((more : List B) → AreOneByOne has (map f (into_iter_items s)) more → AreOneByOne has whole (made ++ more)) → into_iter_steps s (Some x) t → has (f x) one
    → (more : List B) → AreOneByOne has (map f (into_iter_items t)) more → AreOneByOne has whole ((made ++ one ∷ []) ++ more)
one_joined has f whole made one s t x so_far steps its more each =
    subst (AreOneByOne has whole) (sym (append_assoc made (one ∷ []) more))
    (so_far (one ∷ more) (subst (λ items. AreOneByOne has (map f items) (one ∷ more)) (sym steps.0) (its, each)))

pub all_joined : {A B C : Type 0} (has : A → B → Type 0) (f : C → A) (whole : List A) (made : List B) (rest : List C)
    → ((more : List B) → AreOneByOne has (map f rest) more → AreOneByOne has whole (made ++ more)) → length rest ≡ 0 → AreOneByOne has whole made
all_joined has f whole made [] so_far none = subst (AreOneByOne has whole) (append-nil made) (so_far [] tt)
all_joined has f whole made (x ∷ rest) so_far none = absurd (omega arith)

-- a map of a map
pub told_twice : {A B C : Type 0} (f : A → B) (g : B → C) (xs : List A) → map (λ x. g (f x)) xs ≡ map g (map f xs)
told_twice f g [] = refl
told_twice f g (x ∷ xs) = ap (λ rest. g (f x) ∷ rest) (told_twice f g xs)

pub all_told : {A B : Type 0} (P : B → Type 0) (f : A → B) (xs : List A) → All P (map f xs) → All (λ x. P (f x)) xs
all_told P f [] all k d lt = absurd (omega arith)
all_told P f (x ∷ xs) all zero d lt = all zero (f x) (omega arith)
all_told P f (x ∷ xs) all (suc k) d lt = all_told P f xs (λ j e l. all (suc j) e (omega (arith, l))) k d (omega (arith, lt))

-- a fact that holds as long as something is there
pub while_some : {A : Type 0} (o : Option A) (P Q : Type 0) → (P → Q) → IfSome o (λ x. P) → IfSome o (λ x. Q)
while_some None P Q f it = tt
while_some (Some x) P Q f it = f it

pub if_not_some : {A : Type 0} (o : Option A) (P : A → Type 0) → ((x : A) → o ≡ Some x → ⊥) → IfSome o P
if_not_some None P not = tt
if_not_some (Some x) P not = absurd (not x refl)

pub is_there : {A : Type 0} (o : Option A) (P : Type 0) → is_some o ≡ true → IfSome o (λ x. P) → P
is_there None P is it = absurd (cc)
is_there (Some x) P is it = it
