-- Tests, counts and sums over the places of a list, one place after another.
use Rattle.std.proofs.Common.{◌≡◌, ℕ, zero, suc, ◌+◌, ◌<◌, ◌≤◌, Bool, true, false, cond, ◌||◌, List, [], ◌∷◌, ◌++◌, length, refl, sym, ap, ◌∙◌, arith, ◌-◌, subst, get_or}
use Rattle.std.proofs.Math.Numerals.{add-one}
use Rattle.std.specs.Option.{IsSome}
use Rattle.std.specs.List.{list_any, sum_by, range_with_len}
use Rattle.std.proofs.lemmas.Bool.{both_ways, false_from_ne_true}
use Rattle.std.proofs.lemmas.List.Sums.{sum_by_push}
use Rattle.hpb_rules.specs.Text.{bidder_name}
use Rattle.hpb_rules.specs.Tree.{Bidder, Node, terms_of}
use Rattle.hpb_rules.proofs.Ranges.{finds_in}

pub range_from : (a n : ℕ) → range_with_len a (suc n) ≡ range_with_len a n ++ (a + n) ∷ []
range_from a zero = ap (λ x. x ∷ []) (omega arith)
range_from a (suc n) = ap (λ xs. a ∷ xs) (range_from (a + 1) n ∙ ap (λ x. range_with_len (a + 1) n ++ x ∷ []) (omega arith))

-- one place more
pub range_more : (n : ℕ) → range_with_len 0 (n + 1) ≡ range_with_len 0 n ++ n ∷ []
range_more n = subst (λ m. range_with_len 0 m ≡ range_with_len 0 n ++ n ∷ []) (sym (add-one n)) (range_from 0 n ∙ ap (λ x. range_with_len 0 n ++ x ∷ []) (let e : 0 + n ≡ n = omega arith in e))

-- one place more in a sum
pub sum_more : (f : ℕ → ℕ) (n : ℕ) → sum_by f (range_with_len 0 (n + 1)) ≡ sum_by f (range_with_len 0 n) + f n
sum_more f n = ap (sum_by f) (range_more n) ∙ sum_by_push f (range_with_len 0 n) n

-- a test that some place passes
pub any_here : (p : ℕ → Bool) (n k : ℕ) → k < n → p k ≡ true → list_any p (range_with_len 0 n) ≡ true
any_here p n k h e = finds_in p 0 n k (omega arith) (omega arith) e

none_from : (p : ℕ → Bool) (a n : ℕ) → ((k : ℕ) → k < n → p (a + k) ≡ false) → list_any p (range_with_len a n) ≡ false
none_from p a zero h = refl
none_from p a (suc n) h =
    let here : p a ≡ false = let same : a ≡ a + 0 = omega arith in ap p same ∙ h 0 (omega arith) in
    ap (λ b. b || list_any p (range_with_len (a + 1) n)) here
    ∙ none_from p (a + 1) n (λ k l. let same : a + 1 + k ≡ a + suc k = omega arith in ap p same ∙ h (suc k) (omega arith))

-- a test that no place passes
pub none_here : (p : ℕ → Bool) (n : ℕ) → ((k : ℕ) → k < n → p k ≡ false) → list_any p (range_with_len 0 n) ≡ false
none_here p n h = none_from p 0 n (λ k l. let same : 0 + k ≡ k = omega arith in ap p same ∙ h k l)

-- if no place passes a test, the test fails at each place
pub none_at : (p : ℕ → Bool) (n k : ℕ) → list_any p (range_with_len 0 n) ≡ false → k < n → p k ≡ false
none_at p n k h l = false_from_ne_true (p k) (λ e. both_ways _ h (any_here p n k l e))

-- one place more in a count
pub count_yes : (test : ℕ → Bool) (n count : ℕ) → test n ≡ true → count ≡ sum_by (λ m. cond (test m) 1 0) (range_with_len 0 n) → count + 1 ≡ sum_by (λ m. cond (test m) 1 0) (range_with_len 0 (n + 1))
count_yes test n count e h =
    let one : cond {A = ℕ} (test n) 1 0 ≡ 1 = ap (λ b. cond b 1 0) e in
    omega (arith, sum_more (λ m. cond (test m) 1 0) n)

pub count_no : (test : ℕ → Bool) (n count : ℕ) → test n ≡ false → count ≡ sum_by (λ m. cond (test m) 1 0) (range_with_len 0 n) → count ≡ sum_by (λ m. cond (test m) 1 0) (range_with_len 0 (n + 1))
count_no test n count e h =
    let none : cond {A = ℕ} (test n) 1 0 ≡ 0 = ap (λ b. cond b 1 0) e in
    omega (arith, sum_more (λ m. cond (test m) 1 0) n)

-- a sum grows with the places
sum_adds : (f : ℕ → ℕ) (k d : ℕ) → sum_by f (range_with_len 0 k) ≤ sum_by f (range_with_len 0 (k + d))
sum_adds f k zero = let same : k + 0 ≡ k = omega arith in omega (arith, ap (λ n. sum_by f (range_with_len 0 n)) same)
sum_adds f k (suc d) =
    let same : k + suc d ≡ k + d + 1 = omega arith in
    omega (arith, sum_adds f k d, sum_more f (k + d), ap (λ n. sum_by f (range_with_len 0 n)) same)

pub sum_grows : (f : ℕ → ℕ) (k n : ℕ) → k ≤ n → sum_by f (range_with_len 0 k) ≤ sum_by f (range_with_len 0 n)
sum_grows f k n h = let same : k + (n - k) ≡ n = omega arith in omega (arith, sum_adds f k (n - k), ap (λ m. sum_by f (range_with_len 0 m)) same)

-- the part of a place isn't in the sum before it
pub sum_has : (f : ℕ → ℕ) (k n : ℕ) → k < n → sum_by f (range_with_len 0 k) + f k ≤ sum_by f (range_with_len 0 n)
sum_has f k n h = omega (arith, sum_more f k, sum_grows f (k + 1) n (omega arith))

-- a place with terms is within the nodes
pub terms_in : (nodes : List Node) (l : ℕ) → IsSome (terms_of nodes l) → l < length nodes
terms_in [] l some = absurd (both_ways false refl some)
terms_in (n ∷ nodes) zero some = omega arith
terms_in (n ∷ nodes) (suc l) some = omega (arith, terms_in nodes l some)

-- the name of the bidder at a place
pub named_bidder : (bidders : List Bidder) (k : ℕ) (b : Bidder) → k < length bidders → bidder_name bidders k ≡ (get_or bidders k b).name
named_bidder [] k b h = absurd (omega arith)
named_bidder (c ∷ bidders) zero b h = refl
named_bidder (c ∷ bidders) (suc k) b h = named_bidder bidders k b (omega arith)
