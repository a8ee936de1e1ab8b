-- The nodes of the code, as definitions see them.
use Rattle.std.proofs.Common.{◌≡◌, ℕ, zero, suc, ◌+◌, ◌<◌, List, [], ◌∷◌, ◌++◌, map, take, length, get_or, inl, inr, ◌⊎◌, ⊎_elim, Option, Some, None, refl, sym, ap, ◌∙◌, subst, arith}
use Rattle.std.specs.Prelude.{IfSome, string_bytes, slice_get}
use Rattle.std.proofs.lemmas.Option.{slice_get_read, get_or_from_slice_get}
use Rattle.std.proofs.lemmas.List.{length-map, map_push, take_more, length-take-le}
use Rattle.hpb_rules.specs.Tree.{Node, IsTree, parent_of, terms_of}
use Rattle.hpb_rules.specs.Text.{node_name}
use Rattle.hpb_tree.specs.Inside.{node_inside, nodes_inside, IsSummed}
use Rattle.hpb_tree.specs.declared.tree.TreeNode.{TreeNode}

pub length-nodes_inside : (ns : List TreeNode) → length (nodes_inside ns) ≡ length ns
length-nodes_inside [] = refl
length-nodes_inside (n ∷ ns) = ap suc (length-nodes_inside ns)

-- the node at a place has the parent, the terms and the name of that place
node_seen : (ns : List TreeNode) (i : ℕ) (d : TreeNode) → i < length ns
    → (parent_of (nodes_inside ns) i ≡ (get_or ns i d).parent) × (terms_of (nodes_inside ns) i ≡ (get_or ns i d).terms) × (node_name (nodes_inside ns) i ≡ string_bytes (get_or ns i d).name)
node_seen [] i d h = absurd (omega arith)
node_seen (n ∷ ns) zero d h = (refl, refl, refl)
node_seen (n ∷ ns) (suc i) d h = node_seen ns i d (omega arith)

-- an item of a table was read, and the table stands for a list, which has an entry at the item's place
pub record IsRead {A B : Type 0} (view : A → B) (items : List A) (entries : List B) (index place : ℕ) (item : A) : Type 0 where
  pub seen : map view items ≡ entries
  pub found : item ≡ get_or items index item
  pub same : index ≡ place
  pub within : place < length entries

pub read_inside : {A B : Type 0} {view : A → B} {items : List A} {entries : List B} {index place : ℕ} {item : A} → IsRead view items entries index place item → index < length items
read_inside {view = view} {items = items} read = omega (arith, length-map items view, ap length read.seen, read.same, read.within)

-- a node of the code was read at the place of a node
abbrev pub IsNodeRead : List TreeNode → List Node → ℕ → ℕ → TreeNode → Type 0
IsNodeRead = IsRead node_inside

-- its parent, its terms and its name
module _ {ns : List TreeNode} {nodes : List Node} {index node : ℕ} {n : TreeNode} (read : IsNodeRead ns nodes index node n) where
  inside : index < length ns
  inside = read_inside read

  pub name_at : string_bytes n.name ≡ node_name nodes node
  name_at = ap (λ (m : TreeNode). string_bytes m.name) read.found ∙ sym (node_seen ns index n inside).2 ∙ ap (λ xs. node_name xs index) read.seen ∙ ap (node_name nodes) read.same

  pub parent_at : n.parent ≡ parent_of nodes node
  parent_at = ap (λ (m : TreeNode). m.parent) read.found ∙ sym (node_seen ns index n inside).0 ∙ ap (λ xs. parent_of xs index) read.seen ∙ ap (parent_of nodes) read.same

  pub terms_at : n.terms ≡ terms_of nodes node
  terms_at = ap (λ (m : TreeNode). m.terms) read.found ∙ sym (node_seen ns index n inside).1 ∙ ap (λ xs. terms_of xs index) read.seen ∙ ap (terms_of nodes) read.same

  -- the sums, licences and rank that the code keeps of it
  pub summed_at : ((j : ℕ) (m : TreeNode) → slice_get ns j ≡ Some m → IsSummed (nodes_inside ns) j m) → IsSummed nodes node n
  summed_at sums =
      let here : IsSummed (nodes_inside ns) index n = sums index n (slice_get_read ns (length ns) index n refl inside read.found) in
      subst (λ xs. IsSummed xs node n) read.seen (subst (λ j. IsSummed (nodes_inside ns) j n) read.same here)

-- a parent stands before its node
pub parent_before : (nodes : List Node) → IsTree nodes → (m : ℕ) (parent : Option ℕ) → parent ≡ parent_of nodes m → IfSome parent (λ p. p < m)
parent_before nodes tree m None e = tt
parent_before nodes tree m (Some p) e = tree.parents m p (sym e)

push_get : {X : Type 0} (xs : List X) (y : X) (i : ℕ) (x : X) → slice_get (xs ++ y ∷ []) i ≡ Some x → (slice_get xs i ≡ Some x) ⊎ ((i ≡ length xs) × (x ≡ y))
push_get [] y zero x e = inr (refl, cc)
push_get [] y (suc i) x e = cc
push_get (z ∷ xs) y zero x e = inl e
push_get (z ∷ xs) y (suc i) x e = ⊎_elim (λ old. inl old) (λ last. inr (ap suc last.0, last.1)) (push_get xs y i x e)

-- one node more of those built so far
pub built_more : (nodes : List Node) (ns : List TreeNode) (i : ℕ) (n : TreeNode) → i < length nodes
    → (nodes_inside ns ≡ take i nodes) × ((j : ℕ) (m : TreeNode) → slice_get ns j ≡ Some m → IsSummed nodes j m)
    → slice_get nodes i ≡ Some (node_inside n) → IsSummed nodes i n
    → (nodes_inside (ns ++ n ∷ []) ≡ take (i + 1) nodes) × ((j : ℕ) (m : TreeNode) → slice_get (ns ++ n ∷ []) j ≡ Some m → IsSummed nodes j m)
built_more nodes ns i n h (seen, sums) here kept = (
  map_push node_inside ns n ∙ ap (λ xs. xs ++ node_inside n ∷ []) seen ∙ ap (λ x. take i nodes ++ x ∷ []) (sym (get_or_from_slice_get nodes i (node_inside n) (node_inside n) here)) ∙ sym (take_more nodes i (node_inside n) h),
  λ j m e. ⊎_elim (sums j m) (λ last. let same : i ≡ j = omega (arith, last.0, length-nodes_inside ns, ap length seen, length-take-le i nodes) in subst (λ x. IsSummed nodes j x) (sym last.1) (subst (λ k. IsSummed nodes k n) same kept)) (push_get ns n j m e),
)
