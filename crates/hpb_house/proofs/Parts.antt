-- Items divided by their keys among owners of keys.
use Rattle.std.proofs.Common.{◌≡◌, ℕ, zero, suc, ◌<◌, ◌≤◌, ◌==◌, Bool, true, false, not, cond, List, [], ◌∷◌, ◌++◌, map, length, refl, sym, ap, subst, ◌∙◌, arith, slice_index_or}
use Rattle.std.specs.Prelude.{filter, flat_map, AllPairs, IsPermutation}
use Rattle.std.proofs.lemmas.Bool.Decides.{nat_tests}
use Rattle.std.proofs.lemmas.List.{length-append, map-append}
use Rattle.std.proofs.lemmas.List.Filters.{length-filter_both}
use Rattle.std.proofs.lemmas.List.Sorted.{IsPermutation-filter_both, IsPermutation-append_right, IsPermutation-trans, IsPermutation-sym, IsPermutation-refl}
use mathlib.Core.List.{IsPrefix}
use Rattle.hpb_rules.proofs.Prefixes.{prefix_whole}

differs : (x j k : ℕ) → (x == k) ≡ true → (j ≡ k → ⊥) → (x == j) ≡ false
differs x j k e apart = grind (arith, nat_tests)

-- leaving out the items of one key keeps those of another
kept : {A : Type 0} (key : A → ℕ) (k j : ℕ) → (j ≡ k → ⊥) → (items : List A) → filter (λ a. key a == j) (filter (λ a. not (key a == k)) items) ≡ filter (λ a. key a == j) items
kept key k j apart [] = refl
kept {A} key k j apart (a ∷ items) = by (key a == k) refl (kept key k j apart items)
  where
    by : (b : Bool) → (key a == k) ≡ b → filter (λ a. key a == j) (filter (λ a. not (key a == k)) items) ≡ filter (λ a. key a == j) items
        → filter (λ a. key a == j) (cond (not b) (a ∷ filter (λ a. not (key a == k)) items) (filter (λ a. not (key a == k)) items)) ≡ cond (key a == j) (a ∷ filter (λ a. key a == j) items) (filter (λ a. key a == j) items)
    by true e rest = rest ∙ sym (ap (λ (t : Bool). cond t (a ∷ filter (λ a. key a == j) items) (filter (λ a. key a == j) items)) (differs (key a) j k e apart))
    by false e rest = ap (λ (l : List A). cond (key a == j) (a ∷ l) l) rest

-- all items of the owners, one owner after another
abbrev pub parts : {A B : Type 0} → (A → ℕ) → (B → ℕ) → List A → List B → List A
parts key of items owners = flat_map (λ b. filter (λ a. key a == of b) items) owners

parts_kept : {A B : Type 0} (key : A → ℕ) (of : B → ℕ) (k : ℕ) (items : List A) (owners : List B) → ((j : ℕ) (d : B) → j < length owners → k ≡ of (slice_index_or owners j d) → ⊥)
    → parts key of (filter (λ a. not (key a == k)) items) owners ≡ parts key of items owners
parts_kept key of k items [] apart = refl
parts_kept {A} key of k items (b ∷ owners) apart =
    let head = kept key k (of b) (λ e. apart 0 b (omega arith) (sym e)) items in
    let tail = parts_kept key of k items owners (λ j d lt e. apart (suc j) d (omega (arith, lt)) e) in
    ap (λ (l : List A). l ++ parts key of (filter (λ a. not (key a == k)) items) owners) head ∙ ap (λ (l : List A). filter (λ a. key a == of b) items ++ l) tail

others : {B : Type 0} (of : B → ℕ) (b : B) (owners : List B) → AllPairs (λ b c. of b ≡ of c → ⊥) (b ∷ owners) → (j : ℕ) (d : B) → j < length owners → of b ≡ of (slice_index_or owners j d) → ⊥
others of b owners apart j d lt = apart 0 (suc j) d (omega arith) (omega (arith, lt))

rest : {B : Type 0} (of : B → ℕ) (b : B) (owners : List B) → AllPairs (λ b c. of b ≡ of c → ⊥) (b ∷ owners) → AllPairs (λ b c. of b ≡ of c → ⊥) owners
rest of b owners apart i j d lt le = apart (suc i) (suc j) d (omega (arith, lt)) (omega (arith, le))

-- owners with different keys have no more items than there are
pub parts_few : {A B : Type 0} (key : A → ℕ) (of : B → ℕ) (items : List A) (owners : List B) → AllPairs (λ b c. of b ≡ of c → ⊥) owners → length (parts key of items owners) ≤ length items
parts_few key of items [] apart = omega arith
parts_few {A} key of items (b ∷ owners) apart =
    let without : List A = filter (λ a. not (key a == of b)) items in
    let few = parts_few key of without owners (rest of b owners apart) in
    let same = ap length (parts_kept key of (of b) items owners (others of b owners apart)) in
    let both = length-filter_both (λ a. key a == of b) (λ a. not (key a == of b)) (λ a. refl) items in
    let joined = length-append (filter (λ a. key a == of b) items) (parts key of items owners) in
    omega (arith, few, same, both, joined)

-- and if they have as many, they have all
pub parts_all : {A B : Type 0} (key : A → ℕ) (of : B → ℕ) (items : List A) (owners : List B) → AllPairs (λ b c. of b ≡ of c → ⊥) owners → length (parts key of items owners) ≡ length items
    → IsPermutation (parts key of items owners) items
parts_all key of [] [] apart many = IsPermutation-refl []
parts_all key of (a ∷ items) [] apart many = absurd (omega (arith, many))
parts_all {A} key of items (b ∷ owners) apart many =
    let mine : List A = filter (λ a. key a == of b) items in
    let without : List A = filter (λ a. not (key a == of b)) items in
    let same = parts_kept key of (of b) items owners (others of b owners apart) in
    let both = length-filter_both (λ a. key a == of b) (λ a. not (key a == of b)) (λ a. refl) items in
    let joined = length-append mine (parts key of items owners) in
    let long = ap length same in
    let more = parts_all key of without owners (rest of b owners apart) (omega (arith, long, both, joined, many)) in
    let more' : IsPermutation (parts key of items owners) without = subst (λ (l : List A). IsPermutation l without) same more in
    IsPermutation-trans (mine ++ parts key of items owners) (mine ++ without) items
    (IsPermutation-append_right mine (parts key of items owners) without more')
    (IsPermutation-sym items (mine ++ without) (IsPermutation-filter_both (λ a. key a == of b) (λ a. not (key a == of b)) (λ a. refl) items))

-- ---- beginnings of each owner's items
module _ {B C : Type 0} (some whole : B → List C) where
  begins_few : (owners : List B) → ((j : ℕ) (d : B) → j < length owners → IsPrefix (some (slice_index_or owners j d)) (whole (slice_index_or owners j d))) → length (flat_map some owners) ≤ length (flat_map whole owners)
  begins_few [] begin = omega arith
  begins_few (b ∷ owners) begin =
      let p = begin 0 b (omega arith) in
      let few = begins_few owners (λ j d lt. begin (suc j) d (omega (arith, lt))) in
      let one = ap length p.1 in
      omega (arith, few, one, length-append (some b) p.0, length-append (some b) (flat_map some owners), length-append (whole b) (flat_map whole owners))

  -- if all together are as long, each is the whole
  pub begins_each : (owners : List B) → ((j : ℕ) (d : B) → j < length owners → IsPrefix (some (slice_index_or owners j d)) (whole (slice_index_or owners j d)))
      → length (flat_map whole owners) ≤ length (flat_map some owners) → (j : ℕ) (d : B) → j < length owners → some (slice_index_or owners j d) ≡ whole (slice_index_or owners j d)
  begins_each [] begin many = λ j d lt. absurd (omega arith)
  begins_each (b ∷ owners) begin many =
      let p = begin 0 b (omega arith) in
      let later = λ (j : ℕ) (d : B) (lt : j < length owners). begin (suc j) d (omega (arith, lt)) in
      let few = begins_few owners later in
      let one = ap length p.1 in
      let here = length-append (some b) p.0 in
      let left = length-append (some b) (flat_map some owners) in
      let right = length-append (whole b) (flat_map whole owners) in
      cases (prefix_whole (some b) (whole b) p (omega (arith, few, one, here, left, right, many)))
      (begins_each owners later (omega (arith, few, one, here, left, right, many)))
    where
      cases : some b ≡ whole b → ((j : ℕ) (d : B) → j < length owners → some (slice_index_or owners j d) ≡ whole (slice_index_or owners j d))
          → (j : ℕ) (d : B) → j < suc (length owners) → some (slice_index_or (b ∷ owners) j d) ≡ whole (slice_index_or (b ∷ owners) j d)
      cases head tail zero d lt = head
      cases head tail (suc j) d lt = tail j d (omega (arith, lt))

  -- and so are all together
  pub all_same : (owners : List B) → ((j : ℕ) (d : B) → j < length owners → some (slice_index_or owners j d) ≡ whole (slice_index_or owners j d)) → flat_map some owners ≡ flat_map whole owners
  all_same [] same = refl
  all_same (b ∷ owners) same =
      ap (λ (l : List C). l ++ flat_map some owners) (same 0 b (omega arith))
      ∙ ap (λ (l : List C). whole b ++ l) (all_same owners (λ j d lt. same (suc j) d (omega (arith, lt))))

-- a map of all is all of the maps
pub map_parts : {A B C : Type 0} (f : A → C) (each : B → List A) (owners : List B) → map f (flat_map each owners) ≡ flat_map (λ b. map f (each b)) owners
map_parts f each [] = refl
map_parts {A} {B} {C} f each (b ∷ owners) = map-append f (each b) (flat_map each owners) ∙ ap (λ (l : List C). map f (each b) ++ l) (map_parts f each owners)

-- two tests one after the other
pub filter_swap : {A : Type 0} (p q : A → Bool) (items : List A) → filter p (filter q items) ≡ filter q (filter p items)
filter_swap p q [] = refl
filter_swap {A} p q (a ∷ items) = by (p a) (q a) refl refl (filter_swap p q items)
  where
    by : (b c : Bool) → p a ≡ b → q a ≡ c → filter p (filter q items) ≡ filter q (filter p items)
        → filter p (cond (q a) (a ∷ filter q items) (filter q items)) ≡ filter q (cond (p a) (a ∷ filter p items) (filter p items))
    by true true pa qa same =
        ap (λ (t : Bool). filter p (cond t (a ∷ filter q items) (filter q items))) qa ∙ (ap (λ (t : Bool). cond t (a ∷ filter p (filter q items)) (filter p (filter q items))) pa
        ∙ (ap (λ (l : List A). a ∷ l) same
        ∙ (sym (ap (λ (t : Bool). cond t (a ∷ filter q (filter p items)) (filter q (filter p items))) qa) ∙ sym (ap (λ (t : Bool). filter q (cond t (a ∷ filter p items) (filter p items))) pa))))
    by true false pa qa same =
        ap (λ (t : Bool). filter p (cond t (a ∷ filter q items) (filter q items))) qa ∙ (same
        ∙ (sym (ap (λ (t : Bool). cond t (a ∷ filter q (filter p items)) (filter q (filter p items))) qa) ∙ sym (ap (λ (t : Bool). filter q (cond t (a ∷ filter p items) (filter p items))) pa)))
    by false true pa qa same =
        ap (λ (t : Bool). filter p (cond t (a ∷ filter q items) (filter q items))) qa ∙ (ap (λ (t : Bool). cond t (a ∷ filter p (filter q items)) (filter p (filter q items))) pa
        ∙ (same ∙ sym (ap (λ (t : Bool). filter q (cond t (a ∷ filter p items) (filter p items))) pa)))
    by false false pa qa same =
        ap (λ (t : Bool). filter p (cond t (a ∷ filter q items) (filter q items))) qa ∙ (same
        ∙ sym (ap (λ (t : Bool). filter q (cond t (a ∷ filter p items) (filter p items))) pa))
