-- The tests of a draft, as facts about its numbers and lists.
use Rattle.std.proofs.Common.{◌≡◌, ℕ, zero, suc, ◌≤◌, Bool, true, false, not, leb, List, [], ◌∷◌, length, refl, ap, arith}
use Rattle.std.specs.Prelude.{All}
use Rattle.std.specs.List.{list_any}
use Rattle.std.proofs.lemmas.Bool.{both_ways, and_parts, or_parts, not-false, leb-true, le-leb, and_from}
use Rattle.std.proofs.lemmas.List.Folds.{list_any_none}
use Rattle.hpb_rules.specs.Definitions.{IsWithin}
use Rattle.hpb_rules.specs.Drafts.{is_within, is_empty}

-- ---- one number
pub within : (least most number : ℕ) → is_within least most number ≡ true → IsWithin least most number
within least most number e = let parts : (leb least number ≡ true) × (leb number most ≡ true) = and_parts _ _ e in (leb-true _ _ parts.0, leb-true _ _ parts.1)

pub is_within_true : (least most number : ℕ) → IsWithin least most number → is_within least most number ≡ true
is_within_true least most number h = and_from _ _ (le-leb least number h.0) (le-leb number most h.1)

-- ---- a test on each of a list
pub passes_all : {A : Type 0} (test : A → Bool) (xs : List A) → list_any (λ x. not (test x)) xs ≡ false → All (λ x. test x ≡ true) xs
passes_all test [] e k d h = absurd (omega arith)
passes_all test (x ∷ xs) e zero d h = not-false (test x) (or_parts _ _ e).0
passes_all test (x ∷ xs) e (suc k) d h = passes_all test xs (or_parts (not (test x)) _ e).1 k d (omega arith)

pub none_fails : {A : Type 0} (test : A → Bool) (xs : List A) → All (λ x. test x ≡ true) xs → list_any (λ x. not (test x)) xs ≡ false
none_fails test xs all = list_any_none (λ x. not (test x)) xs (λ k d h. ap not (all k d h))

pub filled : {A : Type 0} (xs : List A) → is_empty xs ≡ false → 1 ≤ length xs
filled [] e = absurd (both_ways _ e refl)
filled (x ∷ xs) e = omega arith

pub not_empty : {A : Type 0} (xs : List A) → 1 ≤ length xs → is_empty xs ≡ false
not_empty [] h = absurd (omega arith)
not_empty (x ∷ xs) h = refl
