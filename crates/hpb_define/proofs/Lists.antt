-- Lists of values as lists of data.
use Rattle.std.proofs.Common.{◌≡◌, ℕ, Bool, ◌&&◌, List, [], ◌∷◌, map, String, Global, string_bytes, refl, ap}
use Rattle.std.specs.List.{list_all}
use Rattle.serde_json.specs.Data.{Data}
use Rattle.serde_json.specs.View.{view, items_of, items_view, members_view}
use Rattle.serde_json.specs.declared.value.Value.{Value}
use Rattle.hpb_define.specs.Shape.{list_of, keys}

list_of_items : (ds : List Data) → list_of (items_of ds) ≡ ds
list_of_items [] = refl
list_of_items (d ∷ ds) = ap (λ l. d ∷ l) (list_of_items ds)

pub list_of_view : (vs : List Value) → list_of (items_view vs) ≡ map view vs
list_of_view vs = list_of_items (map view vs)

pub all_mapped : (p : Data → Bool) (vs : List Value) → list_all p (map view vs) ≡ list_all (λ v. p (view v)) vs
all_mapped p [] = refl
all_mapped p (v ∷ vs) = ap (λ b. p (view v) && b) (all_mapped p vs)

pub all_keys_viewed : (p : List ℕ → Bool) (es : List (String Global × Value)) → list_all p (keys (members_view es)) ≡ list_all (λ e. p (string_bytes e.0)) es
all_keys_viewed p [] = refl
all_keys_viewed p (e ∷ es) = ap (λ b. p (string_bytes e.0) && b) (all_keys_viewed p es)
