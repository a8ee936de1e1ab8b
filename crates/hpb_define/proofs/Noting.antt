-- Noting one node more by its name.
use Rattle.std.proofs.Common.{◌≡◌, ℕ, ◌+◌, ◌≤◌, Bool, true, false, cond, not, eqb, nat_lt, List, [], ◌∷◌, ◌++◌, length, Some, None, Option, refl, sym, ap, ◌∙◌, arith, length-append}
use Rattle.std.specs.Option.{option_or, is_some}
use Rattle.std.specs.List.{position, position_or_len}
use Rattle.std.specs.Str.{bytes_eq}
use Rattle.std.proofs.lemmas.Grind.{common_steps}
use Rattle.std.proofs.lemmas.List.Folds.{position_or_len_push}
use Rattle.std.proofs.lemmas.List.Sums.{prefix_len-le-length}
use Rattle.std.proofs.lemmas.Slice.Eq.{bytes_eq-Decides}
use Rattle.hpb_rules.specs.Tree.{Node}
use Rattle.hpb_define.specs.Spelling.{node_named}

first_of_more : (l n : ℕ) (b : Bool) → l ≤ n → cond (nat_lt (cond (eqb l n) (n + cond b 0 1) l) (n + 1)) (Some (cond (eqb l n) (n + cond b 0 1) l)) None ≡ option_or (cond (nat_lt l n) (Some l) None) (cond b (Some n) None)
first_of_more l n b h = grind (arith, common_steps)

pub position_push : {X : Type 0} (p : X → Bool) (xs : List X) (y : X) → position p (xs ++ y ∷ []) ≡ option_or (position p xs) (cond (p y) (Some (length xs)) None)
position_push p xs y = rw (position_or_len_push p xs y, length-append) (first_of_more (position_or_len p xs) (length xs) (p y) (prefix_len-le-length (λ x. not (p x)) xs))

named_push : (earlier : List Node) (node : Node) (name : List ℕ) → node_named (earlier ++ node ∷ []) name ≡ option_or (node_named earlier name) (cond (bytes_eq node.name name) (Some (length earlier)) None)
named_push earlier node name = position_push (λ (n : Node). bytes_eq n.name name) earlier node

or_none : (o : Option ℕ) → option_or o None ≡ o
or_none None = refl
or_none (Some x) = refl

or_some : (o y : Option ℕ) → is_some o ≡ true → option_or o y ≡ o
or_some None y h = let no : false ≡ true = h in absurd (cc)
or_some (Some x) y h = refl

is_none : (o : Option ℕ) → is_some o ≡ false → o ≡ None
is_none None h = refl
is_none (Some x) h = let no : true ≡ false = h in absurd (cc)

module _ (old : List ℕ → Option ℕ) (earlier : List Node) (node : Node) (holds : (name : List ℕ) → old name ≡ node_named earlier name) where
  -- the name is known, and nothing changes
  pub known_before : is_some (old node.name) ≡ true → (name : List ℕ) → old name ≡ node_named (earlier ++ node ∷ []) name
  known_before known name = holds name ∙ sym (named_push earlier node name ∙ by (bytes_eq node.name name) refl)
    where
      by : (b : Bool) → bytes_eq node.name name ≡ b → option_or (node_named earlier name) (cond b (Some (length earlier)) None) ≡ node_named earlier name
      by true e = or_some _ _ (ap is_some (sym (holds name)) ∙ ap (λ s. is_some (old s)) (sym ((bytes_eq-Decides node.name name).0 e)) ∙ known)
      by false e = or_none _

  -- the name is new, and is looked up from now on
  pub new_now : (new : List ℕ → Option ℕ) (place : ℕ) → is_some (old node.name) ≡ false → length earlier ≡ place
      → ((name : List ℕ) → new name ≡ cond (bytes_eq node.name name) (Some place) (old name)) → (name : List ℕ) → new name ≡ node_named (earlier ++ node ∷ []) name
  new_now new place unknown here update name = update name ∙ by (bytes_eq node.name name) refl ∙ sym (named_push earlier node name)
    where
      by : (b : Bool) → bytes_eq node.name name ≡ b → cond b (Some place) (old name) ≡ option_or (node_named earlier name) (cond b (Some (length earlier)) None)
      by true e =
          let gone : node_named earlier name ≡ None = sym (holds name) ∙ ap old (sym ((bytes_eq-Decides node.name name).0 e)) ∙ is_none (old node.name) unknown in
          rw (gone, here) refl
      by false e = holds name ∙ sym (or_none _)
