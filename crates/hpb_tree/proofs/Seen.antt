-- Names that were seen before.
use Rattle.std.proofs.Common.{map, ◌≡◌, ℕ, ◌+◌, ◌<◌, ◌≤◌, Bool, true, false, not, ◌||◌, List, [], ◌∷◌, take, drop, length, get_or, Bor, refl, sym, ap, ◌∙◌}
use Rattle.std.specs.List.{list_any}
use Rattle.std.specs.List.Sorted.{IsPermutation}
use Rattle.std.specs.Str.{bytes_eq}
use Rattle.std.proofs.lemmas.List.{take_more, at_drop_more, at_drop_all, get_or-map}
use Rattle.std.proofs.lemmas.List.Folds.{list_any_more}
use Rattle.std.proofs.lemmas.List.Sorted.{list_any-IsPermutation}
use Rattle.hpb_rules.specs.Drafts.{has_twice}
use Rattle.hpb_tree.proofs.Twice.{has_seen, twice_is}

-- the keys are the names before a place, and none of those names stands twice
pub record Searched (names : List (List ℕ)) (i : ℕ) (keys : List (Bor (List ℕ))) : Type 0 where
  pub known : (bytes : List ℕ) → list_any (λ (k : Bor (List ℕ)). bytes_eq bytes k.now) keys ≡ list_any (bytes_eq bytes) (take i names)
  pub left : has_seen [] names ≡ has_seen (take i names) (drop i names)

pub searched_none : (names : List (List ℕ)) (keys : List (Bor (List ℕ))) → keys ≡ [] → Searched names 0 keys
searched_none names keys e = record { known = λ bytes. ap (list_any (λ (k : Bor (List ℕ)). bytes_eq bytes k.now)) e; left = refl }

or_comm : (a b : Bool) → (a || b) ≡ (b || a)
or_comm true true = refl
or_comm true false = refl
or_comm false true = refl
or_comm false false = refl

-- the names from a place on are the name at that place and those behind it
step : (names : List (List ℕ)) (i : ℕ) → i < length names
    → has_seen (take i names) (drop i names) ≡ (list_any (bytes_eq (get_or names i [])) (take i names) || has_seen (take (i + 1) names) (drop (i + 1) names))
step names i h =
    at_drop_more (has_seen (take i names)) names i [] h
    ∙ ap (λ seen. list_any (bytes_eq (get_or names i [])) (take i names) || has_seen seen (drop (i + 1) names)) (sym (take_more names i [] h))

module _ (names : List (List ℕ)) (i : ℕ) (keys : List (Bor (List ℕ))) (name : List ℕ) (s : Searched names i keys) (small : i < length names) (here : name ≡ get_or names i []) where
  pub searched_found : list_any (λ (k : Bor (List ℕ)). bytes_eq name k.now) keys ≡ true → has_twice names ≡ true
  searched_found e =
      let known : list_any (bytes_eq (get_or names i [])) (take i names) ≡ true = rw here at (sym (s.known name) ∙ e) in
      sym (twice_is names) ∙ s.left ∙ step names i small ∙ rw known refl

  pub searched_more : (key : Bor (List ℕ)) (next : List (Bor (List ℕ))) → key.now ≡ name → list_any (λ (k : Bor (List ℕ)). bytes_eq name k.now) keys ≡ false → IsPermutation (key ∷ keys) next → Searched names (i + 1) next
  searched_more key next same e p = record {
    known = λ bytes.
        sym (list_any-IsPermutation (λ (k : Bor (List ℕ)). bytes_eq bytes k.now) (key ∷ keys) next p)
        ∙ or_comm (bytes_eq bytes key.now) (list_any (λ (k : Bor (List ℕ)). bytes_eq bytes k.now) keys)
        ∙ ap (λ b. b || bytes_eq bytes key.now) (s.known bytes)
        ∙ ap (λ n. list_any (bytes_eq bytes) (take i names) || bytes_eq bytes n) (same ∙ here)
        ∙ sym (list_any_more (bytes_eq bytes) names i [] small);
    left =
        let unknown : list_any (bytes_eq (get_or names i [])) (take i names) ≡ false = rw here at (sym (s.known name) ∙ e) in
        s.left ∙ step names i small ∙ rw unknown refl;
  }

pub searched_all : (names : List (List ℕ)) (i : ℕ) (keys : List (Bor (List ℕ))) → Searched names i keys → length names ≤ i → has_twice names ≡ false
searched_all names i keys s h = sym (twice_is names) ∙ s.left ∙ at_drop_all (has_seen (take i names)) names i h

pub name_at : {X : Type 0} (f : X → List ℕ) (xs : List X) (i : ℕ) (x : X) (name : List ℕ) → i < length xs → x ≡ get_or xs i x → name ≡ f x → name ≡ get_or (map f xs) i []
name_at f xs i x name h found e = e ∙ ap f found ∙ sym (get_or-map f xs i x [] h)

pub was_known : (added known : Bool) → added ≡ not known → added ≡ false → known ≡ true
was_known added true e h = refl
was_known added false e h = cc

pub was_new : (added known : Bool) → added ≡ not known → added ≡ true → known ≡ false
was_new added true e h = cc
was_new added false e h = refl
