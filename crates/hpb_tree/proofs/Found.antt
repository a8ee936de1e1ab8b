-- Nodes and bidders of the code, looked up by name or by place.
use Rattle.std.proofs.Common.{◌≡◌, ℕ, ◌+◌, ◌<◌, Bool, cond, not, List, [], ◌∷◌, map, length, get_or, Some, string_bytes, refl, sym, ap, ◌∙◌, arith}
use Rattle.std.proofs.lemmas.List.{length-map, get_or-map}
use Rattle.std.proofs.lemmas.Option.{slice_get-get_or}
use Rattle.std.specs.List.{position, prefix_len, slice_get}
use Rattle.std.specs.Str.{bytes_eq}
use Rattle.hpb_rules.specs.Tree.{Node, Bidder}
use Rattle.hpb_rules.specs.Text.{bidder_name}
use Rattle.hpb_tree.specs.Inside.{nodes_inside, node_inside}
use Rattle.hpb_tree.specs.Definition.{bidders_view, bidder_view}
use Rattle.hpb_rules.proofs.Places.{named_bidder}
use Rattle.hpb_tree.proofs.Views.{IsRead, read_inside}
use Rattle.hpb_tree.specs.declared.tree.TreeNode.{TreeNode}
use Rattle.hpb_tree.specs.declared.definition.Bidder.{Bidder as Entry}

prefix_len-map : {X Y : Type 0} (f : X → Y) (p : Y → Bool) (xs : List X) → prefix_len p (map f xs) ≡ prefix_len (λ x. p (f x)) xs
prefix_len-map f p [] = refl
prefix_len-map f p (x ∷ xs) = ap (λ n. cond (p (f x)) (1 + n) 0) (prefix_len-map f p xs)

position-map : {X Y : Type 0} (f : X → Y) (p : Y → Bool) (xs : List X) → position p (map f xs) ≡ position (λ x. p (f x)) xs
position-map f p xs = rw (prefix_len-map f (λ y. not (p y)) xs, length-map xs f) refl

-- an item of a table is found at the place that it has in the list which the table stands for
pub node_position : (ns : List TreeNode) {nodes : List Node} (name : List ℕ) → nodes_inside ns ≡ nodes → position (λ (n : TreeNode). bytes_eq (string_bytes n.name) name) ns ≡ position (λ (n : Node). bytes_eq n.name name) nodes
node_position ns name seen = sym (position-map node_inside (λ (n : Node). bytes_eq n.name name) ns) ∙ ap (position (λ (n : Node). bytes_eq n.name name)) seen

pub bidder_position : (bs : List Entry) {bidders : List Bidder} (name : List ℕ) → bidders_view bs ≡ bidders → position (λ (b : Entry). bytes_eq (string_bytes b.name) name) bs ≡ position (λ (b : Bidder). bytes_eq b.name name) bidders
bidder_position bs name seen = sym (position-map bidder_view (λ (b : Bidder). bytes_eq b.name name) bs) ∙ ap (position (λ (b : Bidder). bytes_eq b.name name)) seen

-- a bidder of the code was read at the place of a bidder
abbrev pub IsBidderRead : List Entry → List Bidder → ℕ → ℕ → Entry → Type 0
IsBidderRead = IsRead bidder_view

-- the item stands in the table, and is the bidder of that place, with the same name
module _ {bs : List Entry} {bidders : List Bidder} {index bidder : ℕ} {b : Entry} (read : IsBidderRead bs bidders index bidder b) where
  pub bidder_inside : index < length bs
  bidder_inside = read_inside read

  here : get_or (bidders_view bs) index (bidder_view b) ≡ bidder_view b
  here = get_or-map bidder_view bs index b (bidder_view b) bidder_inside ∙ ap bidder_view (sym read.found)

  pub bidder_name_at : string_bytes b.name ≡ bidder_name bidders bidder
  bidder_name_at =
      ap (λ (c : Bidder). c.name) (sym here)
      ∙ sym (named_bidder (bidders_view bs) index (bidder_view b) (omega (arith, bidder_inside, length-map bs bidder_view)))
      ∙ ap (λ xs. bidder_name xs index) read.seen
      ∙ ap (bidder_name bidders) read.same

  pub bidder_at : slice_get bidders bidder ≡ Some (bidder_view b)
  bidder_at =
      ap (slice_get bidders) (sym read.same)
      ∙ ap (λ xs. slice_get xs index) (sym read.seen)
      ∙ slice_get-get_or (bidders_view bs) index (bidder_view b) (omega (arith, bidder_inside, length-map bs bidder_view))
      ∙ ap Some here
