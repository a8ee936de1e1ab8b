-- Entries one after another.
use Rattle.std.proofs.Common.{◌≡◌, ℕ, zero, suc, ◌+◌, ◌<◌, List, [], ◌∷◌, ◌++◌, length, take, drop, get_or, set, sym, ap, ◌∙◌, arith, append_assoc}
use Rattle.std.specs.List.{flat_map, AllByRecursion}
use Rattle.std.proofs.lemmas.List.{take_at, drop_at, drop_more, take-append-drop, take_more_set, append-nil}
use Rattle.std.proofs.lemmas.List.Concat.{flat_map-cons, flat_map-append}

-- the first entry of a table's bytes, and the bytes behind it
pub next_entry : {X : Type 0} (f : X → List ℕ) (size : ℕ) → ((x : X) → length (f x) ≡ size) → (values : List X) (i : ℕ) (d : X) (rest : List ℕ) → i < length values → rest ≡ flat_map f (drop i values) → (take size rest ≡ f (get_or values i d)) × (drop size rest ≡ flat_map f (drop (i + 1) values))
next_entry f size sized values i d rest lt e =
    let x = get_or values i d in
    let more : rest ≡ f x ++ flat_map f (drop (i + 1) values) = e ∙ ap (flat_map f) (drop_more values i d lt) ∙ flat_map-cons f x (drop (i + 1) values) in
    (ap (take size) more ∙ take_at (f x) _ size (sized x), ap (drop size) more ∙ drop_at (f x) _ size (sized x))

-- a property of all entries holds of the one at a place
pub recursion_at : {X : Type 0} (P : X → Type 0) (values : List X) (i : ℕ) (d : X) → i < length values → AllByRecursion P values → P (get_or values i d)
recursion_at P [] i d lt all = absurd (omega arith)
recursion_at P (x ∷ values) zero d lt all = all.0
recursion_at P (x ∷ values) (suc i) d lt all = recursion_at P values i d (omega arith) all.1

-- a property of all entries and of one more holds of all with that one
pub recursion_push : {X : Type 0} (P : X → Type 0) (values : List X) (x : X) → AllByRecursion P values → P x → AllByRecursion P (values ++ x ∷ [])
recursion_push P [] x all one = (one, tt)
recursion_push P (y ∷ values) x all one = (all.0, recursion_push P values x all.1 one)

-- one more entry was read
pub entry_added : {X : Type 0} (f : X → List ℕ) (bytes : List ℕ) (table : List X) (i : ℕ) (x : X) (size : ℕ) (rest front after : List ℕ) → i < length table → bytes ≡ flat_map f (take i table) ++ rest → front ≡ take size rest → after ≡ drop size rest → front ≡ f x → bytes ≡ flat_map f (take (i + 1) (set table i x)) ++ after
entry_added f bytes table i x size rest front after lt whole is_front is_after e =
    let cut : rest ≡ f x ++ after = sym (take-append-drop size rest) ∙ ap (λ (y : List ℕ). y ++ drop size rest) (sym is_front ∙ e) ∙ ap (λ (y : List ℕ). f x ++ y) (sym is_after) in
    let more : flat_map f (take (i + 1) (set table i x)) ≡ flat_map f (take i table) ++ f x = ap (flat_map f) (take_more_set table i x lt) ∙ flat_map-append f (take i table) (x ∷ []) ∙ ap (λ (y : List ℕ). flat_map f (take i table) ++ y) (append-nil (f x)) in
    whole ∙ ap (λ (y : List ℕ). flat_map f (take i table) ++ y) cut ∙ sym (append_assoc (flat_map f (take i table)) (f x) after) ∙ ap (λ (y : List ℕ). y ++ after) (sym more)
