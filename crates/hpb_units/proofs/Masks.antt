-- Gathering the licences held into a mask, node by node.
use Rattle.std.proofs.Common.{◌≡◌, ℕ, ◌+◌, ◌<◌, max, Bool, true, false, ◌&&◌, ◌||◌, eqb, List, [], ◌∷◌, bit_or, refl, sym, ap, ◌∙◌, arith}
use Rattle.std.specs.Option.{IsSome}
use Rattle.std.specs.Int.{bit_at}
use Rattle.std.specs.List.{list_any, range_with_len}
use Rattle.std.proofs.Math.Bool.{or-false}
use Rattle.std.proofs.lemmas.Bool.Decides.{nat_tests}
use Rattle.std.proofs.lemmas.List.Folds.{list_any-append}
use Rattle.std.proofs.lemmas.Nat.Bits.{bit_at_or, bit_at-lt}
use Rattle.hpb_rules.specs.Tree.{Node, terms_of, at_or_under}
use Rattle.hpb_rules.proofs.Tests.{bit_of_test}
use Rattle.hpb_tree.specs.Licences.{licence_number, IsMask}
use Rattle.hpb_rules.proofs.Places.{range_more}
use Rattle.hpb_units.specs.Activity.{has_licence}

pub any_more : (test : ℕ → Bool) (i : ℕ) → list_any test (range_with_len 0 (i + 1)) ≡ (list_any test (range_with_len 0 i) || test i)
any_more test i =
    ap (list_any test) (range_more i)
    ∙ list_any-append test (range_with_len 0 i) (i ∷ [])
    ∙ ap (λ b. list_any test (range_with_len 0 i) || b) (or-false (test i))

module _ (nodes : List Node) where
  -- a node's mask has the licences at or under it
  pub node_in_mask : (n mask l : ℕ) → IsMask nodes n mask → IsSome (terms_of nodes l) → has_licence nodes mask l ≡ at_or_under nodes n l
  node_in_mask n mask l m some = ap (λ x. eqb x 1) (m.bits l some) ∙ bit_of_test (at_or_under nodes n l)

  -- two masks together have each licence that either has
  pub or_in_mask : (a b l : ℕ) → has_licence nodes (bit_or a b) l ≡ (has_licence nodes a l || has_licence nodes b l)
  or_in_mask a b l =
      ap (λ x. eqb x 1) (bit_at_or a b (licence_number nodes l))
      ∙ greater (bit_at a (licence_number nodes l)) (bit_at b (licence_number nodes l)) (bit_at-lt a (licence_number nodes l)) (bit_at-lt b (licence_number nodes l))
    where
      greater : (x y : ℕ) → x < 2 → y < 2 → eqb (max x y) 1 ≡ (eqb x 1 || eqb y 1)
      greater x y p q = grind (arith, nat_tests)

  -- adding a node's licences to a mask of the licences that pass a test
  pub with_in_mask : (test : ℕ → Bool) (mask : ℕ) {n own : ℕ} → ((l : ℕ) → IsSome (terms_of nodes l) → has_licence nodes mask l ≡ test l) → IsMask nodes n own
      → (l : ℕ) → IsSome (terms_of nodes l) → has_licence nodes (bit_or mask own) l ≡ (test l || at_or_under nodes n l)
  with_in_mask test mask {n = n} {own = own} has m l some =
      or_in_mask mask own l
      ∙ ap (λ b. b || has_licence nodes own l) (has l some)
      ∙ ap (λ b. test l || b) (node_in_mask n own l m some)

  -- the mask has the licences of those nodes before place i that pass the test
  pub record Gathered (test : ℕ → Bool) (i mask : ℕ) : Type 0 where
    pub has : (l : ℕ) → IsSome (terms_of nodes l) → has_licence nodes mask l ≡ list_any (λ n. at_or_under nodes n l && test n) (range_with_len 0 i)

  module _ (test : ℕ → Bool) {i mask : ℕ} (g : Gathered test i mask) where
    -- a node that passes adds its licences
    pub gathered_more : {n own : ℕ} → n ≡ i → test n ≡ true → IsMask nodes n own → Gathered test (i + 1) (bit_or mask own)
    gathered_more {n = n} {own = own} at passes m = record {
      has = λ l some.
          or_in_mask mask own l
          ∙ both (has_licence nodes mask l) _ (has_licence nodes own l) (at_or_under nodes i l) (test i) (g.has l some)
          (node_in_mask n own l m some ∙ ap (λ k. at_or_under nodes k l) at)
          (ap test (sym at) ∙ passes)
          ∙ sym (any_more (λ n. at_or_under nodes n l && test n) i);
    }
      where
        both : (x y v w t : Bool) → x ≡ y → v ≡ w → t ≡ true → (x || v) ≡ (y || (w && t))
        both x y v true t e f h = cc
        both x y v false t e f h = cc

    -- a node that does not pass adds none
    pub gathered_same : {n : ℕ} → n ≡ i → test n ≡ false → Gathered test (i + 1) mask
    gathered_same at fails = record {
      has = λ l some.
          g.has l some
          ∙ none _ (at_or_under nodes i l) (test i) (ap test (sym at) ∙ fails)
          ∙ sym (any_more (λ n. at_or_under nodes n l && test n) i);
    }
      where
        none : (x w t : Bool) → t ≡ false → x ≡ (x || (w && t))
        none true w t h = refl
        none false true t h = sym h
        none false false t h = refl
