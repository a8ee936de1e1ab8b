-- Lists made from the places of a range, and tests over them: steps that other crates' proofs cite too.
use Rattle.std.proofs.Common.{◌≡◌, ℕ, zero, suc, ◌+◌, ◌<◌, ◌≤◌, Bool, true, false, ◌||◌, List, [], ◌∷◌, map, set, get_or, length, refl, sym, ap, ◌∙◌, ⊎_elim, arith}
use Rattle.std.specs.List.{list_any, range_with_len}
use Rattle.std.proofs.lemmas.Bool.{cases_eq, cases_lt, both_ways, or_left, or_right, false_from_ne_true}
use Rattle.std.proofs.lemmas.List.{same_lists, get_or_past}
use Rattle.std.proofs.lemmas.List.FromFn.{get_or-map-range_with_len, length-map-range_with_len}
use Rattle.hpb_rules.proofs.Tests.{or_same}

-- the first place or a later one
pub later : (a b : ℕ) → a ≤ b → (a ≡ b → ⊥) → a + 1 ≤ b
later a b le other = ⊎_elim (λ less. omega arith) (λ no. absurd (other (omega arith))) (cases_lt a b)

-- maps that agree at each place of the range
pub map_same : {A : Type 0} (f g : ℕ → A) (a k : ℕ) → ((n : ℕ) → a ≤ n → n < a + k → f n ≡ g n) → map f (range_with_len a k) ≡ map g (range_with_len a k)
map_same f g a zero h = refl
map_same f g a (suc k) h = both (f a) (g a) _ _ (h a (omega arith) (omega arith)) (map_same f g (a + 1) k (λ n l m. h n (omega arith) (omega arith)))
  where
    both : {A : Type 0} (x y : A) (xs ys : List A) → x ≡ y → xs ≡ ys → x ∷ xs ≡ y ∷ ys
    both x y xs ys e f = cc

-- one place set
pub map_set : {A : Type 0} (f g : ℕ → A) (y : A) (a k i : ℕ) → i < k → g (a + i) ≡ y → ((n : ℕ) → a ≤ n → n < a + k → (n ≡ a + i → ⊥) → g n ≡ f n) → set (map f (range_with_len a k)) i y ≡ map g (range_with_len a k)
map_set f g y a zero i l e h = absurd (omega arith)
map_set f g y a (suc k) zero l e h = both y (g a) _ _ (sym e ∙ ap g (omega arith)) (map_same f g (a + 1) k (λ n p q. sym (h n (omega arith) (omega arith) (λ z. omega (arith, z)))))
  where
    both : {A : Type 0} (x y : A) (xs ys : List A) → x ≡ y → xs ≡ ys → x ∷ xs ≡ y ∷ ys
    both x y xs ys e f = cc
map_set f g y a (suc k) (suc i) l e h =
    both (f a) (g a) _ _ (sym (h a (omega arith) (omega arith) (λ z. omega (arith, z))))
    (map_set f g y (a + 1) k i (omega arith) (ap g (omega arith) ∙ e) (λ n p q o. h n (omega arith) (omega arith) (λ z. o (omega (arith, z)))))
  where
    both : {A : Type 0} (x y : A) (xs ys : List A) → x ≡ y → xs ≡ ys → x ∷ xs ≡ y ∷ ys
    both x y xs ys e f = cc

-- a place at which a test in a range passes
pub found_in : (test : ℕ → Bool) (a k : ℕ) → list_any test (range_with_len a k) ≡ true → (n : ℕ) × (a ≤ n) × (n < a + k) × (test n ≡ true)
found_in test a zero e = absurd (both_ways false refl e)
found_in test a (suc k) e = by (found_in test (a + 1) k) (test a) refl e
  where
    by : (list_any test (range_with_len (a + 1) k) ≡ true → (n : ℕ) × (a + 1 ≤ n) × (n < a + 1 + k) × (test n ≡ true)) → (b : Bool) → test a ≡ b → (b || list_any test (range_with_len (a + 1) k)) ≡ true → (n : ℕ) × (a ≤ n) × (n < a + suc k) × (test n ≡ true)
    by rec true p f = (a, omega arith, omega arith, p)
    by rec false p f = let r : (n : ℕ) × (a + 1 ≤ n) × (n < a + 1 + k) × (test n ≡ true) = rec f in (r.0, omega (arith, r.1), omega (arith, r.2), r.3)

-- a place of a range that passes a test is found
pub finds_in : (test : ℕ → Bool) (a k n : ℕ) → a ≤ n → n < a + k → test n ≡ true → list_any test (range_with_len a k) ≡ true
finds_in test a zero n l h e = absurd (omega arith)
finds_in test a (suc k) n l h e = ⊎_elim
    (λ same. or_left (test a) _ (ap test same ∙ e))
    (λ other. or_right (test a) _ (finds_in test (a + 1) k n (later a n l other) (omega arith) e))
    (cases_eq a n)

-- a test that finds nothing in a range fails at each of its places
pub fails_at : (test : ℕ → Bool) (a k : ℕ) → list_any test (range_with_len a k) ≡ false → (n : ℕ) → a ≤ n → n < a + k → test n ≡ false
fails_at test a k none n l h = false_from_ne_true (test n) (λ some. both_ways _ none (finds_in test a k n l h some))

pub list_any_map : {A : Type 0} (test : A → Bool) (f : ℕ → A) (xs : List ℕ) → list_any test (map f xs) ≡ list_any (λ n. test (f n)) xs
list_any_map test f [] = refl
list_any_map test f (x ∷ xs) = ap (λ b. test (f x) || b) (list_any_map test f xs)

-- two tests that agree at each place of a range give the same answer
pub list_any_same : (p q : ℕ → Bool) (a k : ℕ) → ((n : ℕ) → a ≤ n → n < a + k → p n ≡ q n) → list_any p (range_with_len a k) ≡ list_any q (range_with_len a k)
list_any_same p q a zero h = refl
list_any_same p q a (suc k) h = or_same (p a) (q a) _ _ (h a (omega arith) (omega arith)) (list_any_same p q (a + 1) k (λ n l m. h n (omega arith) (omega arith)))

-- within a list the default makes no difference
pub any_default : {A : Type 0} (xs : List A) (place : ℕ) (one other : A) → place < length xs → get_or xs place one ≡ get_or xs place other
any_default [] place one other h = absurd (omega arith)
any_default (x ∷ xs) zero one other h = refl
any_default (x ∷ xs) (suc place) one other h = any_default xs place one other (omega arith)

-- a list made place by place is the list with the same items
pub made_is : {A : Type 0} (f : ℕ → A) (xs : List A) (count : ℕ) → length xs ≡ count → ((place : ℕ) (default : A) → place < count → f place ≡ get_or xs place default) → map f (range_with_len 0 count) ≡ xs
made_is f xs count size each = same_lists (map f (range_with_len 0 count)) xs (length-map-range_with_len f 0 count ∙ sym size)
    (λ place default less. let within : place < count = omega (arith, less, length-map-range_with_len f 0 count) in
    get_or-map-range_with_len f 0 count place place default within (omega arith) ∙ each place default within)

-- a list made place by place has the item of each place there, and the default behind the last one
pub made_at : {A : Type 0} (f : ℕ → A) (count place : ℕ) (default : A) → (count ≤ place → default ≡ f place) → get_or (map f (range_with_len 0 count)) place default ≡ f place
made_at f count place default behind = ⊎_elim
    (λ less. get_or-map-range_with_len f 0 count place place default less (omega arith))
    (λ more. get_or_past (map f (range_with_len 0 count)) place default (omega (arith, length-map-range_with_len f 0 count)) ∙ behind more)
    (cases_lt place count)

-- the item made from an item, at any place
pub map_at : {A B : Type 0} (f : A → B) (xs : List A) (place : ℕ) (default : A) (other : B) → f default ≡ other → get_or (map f xs) place other ≡ f (get_or xs place default)
map_at f [] place default other e = sym e
map_at f (x ∷ xs) zero default other e = refl
map_at f (x ∷ xs) (suc place) default other e = map_at f xs place default other e
