-- The nodes of a draft, as definitions see them.
use Rattle.std.proofs.Common.{◌≡◌, ℕ, zero, suc, ◌<◌, ◌≤◌, Bool, true, false, List, [], ◌∷◌, length, get_or, Option, Some, option_map, string_bytes, refl, sym, ap, ◌∙◌, arith}
use Rattle.std.specs.List.{list_any, slice_get}
use Rattle.std.proofs.lemmas.Option.{slice_get-get_or}
use Rattle.std.proofs.lemmas.List.{length-map, get_or-map}
use Rattle.hpb_rules.specs.declared.licence.Terms.{Terms}
use Rattle.hpb_rules.specs.Tree.{parent_of, terms_of, places}
use Rattle.hpb_tree.specs.Draft.{nodes_said, node_said, terms_said}
use Rattle.hpb_tree.specs.declared.draft.NodeDraft.{NodeDraft}
use Rattle.hpb_rules.proofs.Places.{any_here, none_here}

pub parent_of-nodes_said : (ns : List NodeDraft) (i : ℕ) (d : NodeDraft) → i < length ns → parent_of (nodes_said ns) i ≡ (get_or ns i d).parent
parent_of-nodes_said [] i d h = absurd (omega arith)
parent_of-nodes_said (n ∷ ns) zero d h = refl
parent_of-nodes_said (n ∷ ns) (suc i) d h = parent_of-nodes_said ns i d (omega arith)

pub terms_of-nodes_said : (ns : List NodeDraft) (i : ℕ) (d : NodeDraft) → i < length ns → terms_of (nodes_said ns) i ≡ option_map terms_said (get_or ns i d).terms
terms_of-nodes_said [] i d h = absurd (omega arith)
terms_of-nodes_said (n ∷ ns) zero d h = refl
terms_of-nodes_said (n ∷ ns) (suc i) d h = terms_of-nodes_said ns i d (omega arith)

-- a test that some node passes, and one that none does
pub some_place : (p : ℕ → Bool) (ns : List NodeDraft) (k : ℕ) → k < length ns → true ≡ p k → true ≡ list_any p (places (nodes_said ns))
some_place p ns k h e = sym (any_here p (length (nodes_said ns)) k (omega (arith, length-map ns node_said)) (sym e))

pub no_place : (p : ℕ → Bool) (ns : List NodeDraft) (i : ℕ) → length ns ≤ i → ((k : ℕ) → k < i → p k ≡ false) → false ≡ list_any p (places (nodes_said ns))
no_place p ns i h none = sym (none_here p (length (nodes_said ns)) (λ k l. none k (omega (arith, length-map ns node_said))))

pub length-nodes_said : (ns : List NodeDraft) → length (nodes_said ns) ≡ length ns
length-nodes_said ns = length-map ns node_said

-- a node with the name, the parent and the terms that were written
pub node_from : (ns : List NodeDraft) (i : ℕ) (d : NodeDraft) {name : List ℕ} {parent : Option ℕ} {terms : Option Terms} → i < length ns → d ≡ get_or ns i d
    → name ≡ string_bytes d.name → parent ≡ parent_of (nodes_said ns) i → terms ≡ terms_of (nodes_said ns) i
    → slice_get (nodes_said ns) i ≡ Some (record { name = name; parent = parent; terms = terms })
node_from ns i d {name} {parent} {terms} h found n p t =
    slice_get-get_or (nodes_said ns) i (node_said d) (omega (arith, length-nodes_said ns))
    ∙ ap Some (get_or-map node_said ns i d (node_said d) h ∙ same)
  where
    same : node_said (get_or ns i d) ≡ record { name = name; parent = parent; terms = terms }
    same = sym (
        ap (λ x. record { name = x; parent = parent; terms = terms }) (n ∙ ap (λ (m : NodeDraft). string_bytes m.name) found)
        ∙ ap (λ x. record { name = string_bytes (get_or ns i d).name; parent = x; terms = terms }) (p ∙ parent_of-nodes_said ns i d h)
        ∙ ap (λ x. record { name = string_bytes (get_or ns i d).name; parent = (get_or ns i d).parent; terms = x }) (t ∙ terms_of-nodes_said ns i d h))
