-- Names that stand twice; and a name that stands once, which is found at its own place.
use Rattle.std.proofs.Common.{[], ◌≡◌, ℕ, zero, suc, ◌<◌, Bool, true, false, cond, ◌||◌, List, ◌∷◌, ◌++◌, map, take, length, get_or, Some, None, refl, sym, ap, ◌∙◌, arith}
use Rattle.std.specs.List.{list_any, position, position_or_len}
use Rattle.std.specs.Str.{bytes_eq}
use Rattle.std.proofs.lemmas.Bool.{or_parts, both_ways, false_from_ne_true, lt-ltb}
use Rattle.std.proofs.lemmas.List.{append-nil, append_assoc, get_or-map, get_or-take, length-map, length-take-le}
use Rattle.std.proofs.lemmas.List.Folds.{list_any-append, list_any_at}
use Rattle.std.proofs.lemmas.List.Sums.{position_or_len_is}
use Rattle.std.proofs.lemmas.Slice.Eq.{bytes_eq-Decides}
use Rattle.hpb_rules.specs.Drafts.{has_twice}
use Rattle.hpb_rules.proofs.Lists.{or_false}
use Rattle.hpb_rules.proofs.Tests.{same_answer}

-- one of the names stands before it too, or among those seen earlier
abbrev pub has_seen : List (List ℕ) → List (List ℕ) → Bool
has_seen seen [] = false
has_seen seen (name ∷ names) = list_any (bytes_eq name) seen || has_seen (seen ++ name ∷ []) names

pub flip : (a b : List ℕ) → bytes_eq a b ≡ bytes_eq b a
flip a b = same_answer (bytes_eq a b) (bytes_eq b a) (λ e. (bytes_eq-Decides b a).1 (sym ((bytes_eq-Decides a b).0 e))) (λ e. (bytes_eq-Decides a b).1 (sym ((bytes_eq-Decides b a).0 e)))

-- two tests that agree on each item agree on the list
any_same : {X : Type 0} (p q : X → Bool) → ((x : X) → p x ≡ q x) → (xs : List X) → list_any p xs ≡ list_any q xs
any_same p q same [] = refl
any_same p q same (x ∷ xs) = ap (λ b. b || list_any p xs) (same x) ∙ ap (λ b. q x || b) (any_same p q same xs)

-- a test that fails everywhere
any_no : {X : Type 0} (xs : List X) → list_any (λ x. false) xs ≡ false
any_no [] = refl
any_no (x ∷ xs) = any_no xs

or_swap : (a b c d : Bool) → ((a || b) || (c || d)) ≡ ((a || c) || (b || d))
or_swap true b c d = refl
or_swap false true true d = refl
or_swap false true false d = refl
or_swap false false c d = refl

-- one test or another
any_either : {X : Type 0} (p q : X → Bool) (xs : List X) → list_any (λ x. p x || q x) xs ≡ (list_any p xs || list_any q xs)
any_either p q [] = refl
any_either p q (x ∷ xs) = ap (λ b. (p x || q x) || b) (any_either p q xs) ∙ or_swap (p x) (q x) (list_any p xs) (list_any q xs)

or_four : (a b c d : Bool) → (a || ((b || c) || d)) ≡ ((a || b) || (c || d))
or_four true b c d = refl
or_four false true c d = refl
or_four false false c d = refl

-- among the remaining names one was seen before, or one stands twice
seen_or_twice : (seen names : List (List ℕ)) → has_seen seen names ≡ (list_any (λ name. list_any (bytes_eq name) seen) names || has_twice names)
seen_or_twice seen [] = refl
seen_or_twice seen (name ∷ names) =
    ap (λ b. list_any (bytes_eq name) seen || b) (seen_or_twice (seen ++ name ∷ []) names)
    ∙ ap (λ b. list_any (bytes_eq name) seen || (b || has_twice names))
    (any_same (λ other. list_any (bytes_eq other) (seen ++ name ∷ [])) (λ other. list_any (bytes_eq other) seen || bytes_eq name other)
    (λ other. list_any-append (bytes_eq other) seen (name ∷ []) ∙ ap (λ b. list_any (bytes_eq other) seen || b) (or_false (bytes_eq other name) ∙ flip other name)) names
    ∙ any_either (λ other. list_any (bytes_eq other) seen) (bytes_eq name) names)
    ∙ or_four (list_any (bytes_eq name) seen) (list_any (λ other. list_any (bytes_eq other) seen) names) (list_any (bytes_eq name) names) (has_twice names)

-- if one of the names was seen before, a name stands twice
pub twice_is : (names : List (List ℕ)) → has_seen [] names ≡ has_twice names
twice_is names = seen_or_twice [] names ∙ ap (λ b. b || has_twice names) (any_no names)

-- each name differs from those that stand before it
apart_from : (seen xs : List (List ℕ)) → has_seen seen xs ≡ false → (j : ℕ) → j < length xs → list_any (bytes_eq (get_or xs j [])) (seen ++ take j xs) ≡ false
apart_from seen [] e j h = absurd (omega arith)
apart_from seen (x ∷ xs) e zero h = ap (list_any (bytes_eq x)) (append-nil seen) ∙ (or_parts _ _ e).0
apart_from seen (x ∷ xs) e (suc j) h =
    ap (list_any (bytes_eq (get_or xs j []))) (sym (append_assoc seen (x ∷ []) (take j xs)))
    ∙ apart_from (seen ++ x ∷ []) xs (or_parts _ _ e).1 j (omega arith)

-- a name that stands once is found at its own place
pub found_at : {X : Type 0} (f : X → List ℕ) (xs : List X) (j : ℕ) (d : X) → has_twice (map f xs) ≡ false → j < length xs → position (λ x. bytes_eq (f x) (f (get_or xs j d))) xs ≡ Some j
found_at f xs j d e h =
    let at : position_or_len (λ x. bytes_eq (f x) (f (get_or xs j d))) xs ≡ j = position_or_len_is (λ x. bytes_eq (f x) (f (get_or xs j d))) xs j d (omega arith) other (λ less. (bytes_eq-Decides (f (get_or xs j d)) (f (get_or xs j d))).1 refl) in
    rw at (ap (λ b. cond b (Some j) None) (lt-ltb j (length xs) h))
  where
    mine : get_or (map f xs) j [] ≡ f (get_or xs j d)
    mine = get_or-map f xs j d [] h

    apart : list_any (bytes_eq (f (get_or xs j d))) (take j (map f xs)) ≡ false
    apart = rw mine at (apart_from [] (map f xs) (twice_is (map f xs) ∙ e) j (omega (arith, length-map xs f)))

    other : (k : ℕ) → k < j → bytes_eq (f (get_or xs k d)) (f (get_or xs j d)) ≡ false
    other k l =
        let there : get_or (take j (map f xs)) k [] ≡ f (get_or xs k d) = get_or-take j (map f xs) k [] l ∙ get_or-map f xs k d [] (omega arith) in
        flip (f (get_or xs k d)) (f (get_or xs j d))
        ∙ ap (bytes_eq (f (get_or xs j d))) (sym there)
        ∙ false_from_ne_true _ (λ yes. both_ways _ apart (list_any_at (bytes_eq (f (get_or xs j d))) (take j (map f xs)) k [] (omega (arith, length-take-le j (map f xs), length-map xs f)) yes))
