-- Reading one item more of a list.
use Rattle.std.proofs.Common.{◌≡◌, ℕ, zero, suc, ◌+◌, ◌<◌, List, [], ◌∷◌, ◌++◌, length, get_or, take, map, Option, Some, None, option_map, refl, sym, ap, ◌∙◌, arith}
use Rattle.std.proofs.lemmas.List.{take_more, map-append}
use Rattle.std.specs.Option.{option_and_then}
use Rattle.serde_json.specs.Data.{Data}
use Rattle.serde_json.specs.View.{view}
use Rattle.serde_json.specs.declared.value.Value.{Value}
use Rattle.hpb_define.specs.Spelling.{each}
use Rattle.hpb_define.specs.Reading.{Fails}
use Rattle.hpb_define.specs.declared.fault.DefineCause.{DefineCause}
use Rattle.hpb_define.specs.declared.fault.DefineCause.TheVariants.{Memory, Json, Field, Number, Refused}

pub push_first : {A : Type 0} (o : Option A) → option_and_then (λ y. option_map (λ l. y ∷ l) (Some [])) o ≡ option_map (λ y. y ∷ []) o
push_first None = refl
push_first (Some y) = refl

pub push_last : {A : Type 0} (o : Option A) (ys : List A) (z : A) → option_map (λ l. z ∷ l) (option_map (λ y. ys ++ y ∷ []) o) ≡ option_map (λ y. z ∷ (ys ++ y ∷ [])) o
push_last None ys z = refl
push_last (Some y) ys z = refl

push_next : {A : Type 0} (p : Option A) (q : Option (List A)) (o : Option A)
    → option_and_then (λ z. option_map (λ l. z ∷ l) (option_and_then (λ ys. option_map (λ y. ys ++ y ∷ []) o) q)) p
    ≡ option_and_then (λ ys. option_map (λ y. ys ++ y ∷ []) o) (option_and_then (λ z. option_map (λ l. z ∷ l) q) p)
push_next None q o = refl
push_next (Some z) None o = refl
push_next (Some z) (Some ys) o = push_last o ys z

each_push : {A : Type 0} (f : Data → Option A) (ds : List Data) (d : Data) → each f (ds ++ d ∷ []) ≡ option_and_then (λ ys. option_map (λ y. ys ++ y ∷ []) (f d)) (each f ds)
each_push f [] d = push_first (f d)
each_push f (e ∷ ds) d = ap (λ r. option_and_then (λ z. option_map (λ l. z ∷ l) r) (f e)) (each_push f ds d) ∙ push_next (f e) (each f ds) (f d)

pub each_more : {A : Type 0} (f : Data → Option A) (vs : List Value) (i : ℕ) (v : Value) (ys : List A) (y : A) → i < length vs → v ≡ get_or vs i v
    → each f (map view (take i vs)) ≡ Some ys → f (view v) ≡ Some y → each f (map view (take (i + 1) vs)) ≡ Some (ys ++ y ∷ [])
each_more f vs i v ys y small at so_far now =
    let here : f (view (get_or vs i v)) ≡ Some y = ap (λ w. f (view w)) (sym at) ∙ now in
    ap (λ l. each f (map view l)) (take_more vs i v small)
    ∙ ap (each f) (map-append view (take i vs) (get_or vs i v ∷ []))
    ∙ each_push f (map view (take i vs)) (view (get_or vs i v))
    ∙ ap (λ r. option_and_then (λ l. option_map (λ x. l ++ x ∷ []) r) (each f (map view (take i vs)))) here
    ∙ ap (λ r. option_and_then (λ l. option_map (λ x. l ++ x ∷ []) (Some y)) r) so_far

then_none : {A : Type 0} (o : Option A) (r : Option (List A)) → r ≡ None → option_and_then (λ x. option_map (λ xs. x ∷ xs) r) o ≡ None
then_none None r h = refl
then_none (Some x) r h = rw h refl

pub each_stops : {A : Type 0} (f : Data → Option A) (vs : List Value) (i : ℕ) (v : Value) → i < length vs → v ≡ get_or vs i v → f (view v) ≡ None → each f (map view vs) ≡ None
each_stops f [] i v small at h = absurd (omega arith)
each_stops f (x ∷ xs) zero v small at h = let e : f (view x) ≡ None = ap (λ w. f (view w)) (sym at) ∙ h in rw e refl
each_stops f (x ∷ xs) (suc i) v small at h = then_none (f (view x)) (each f (map view xs)) (each_stops f xs i v (omega arith) at h)

pub each_fails : {A : Type 0} (f : Data → Option A) (vs : List Value) (i : ℕ) (v : Value) (e : DefineCause) → i < length vs → v ≡ get_or vs i v → Fails e (f (view v)) → Fails e (each f (map view vs))
each_fails f vs i v Memory small at h = tt
each_fails f vs i v Json small at h = absurd h
each_fails f vs i v Field small at h = absurd h
each_fails f vs i v Number small at h = each_stops f vs i v small at h
each_fails f vs i v (Refused fault) small at h = absurd h
