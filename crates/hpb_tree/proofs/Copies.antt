-- A copy has the same value.
use Rattle.std.proofs.Common.{◌≡◌, ℕ, ◌<◌, List, map, length, get_or, Some, sym, ap, ◌∙◌, arith}
use Rattle.std.specs.List.{slice_get}
use Rattle.std.proofs.lemmas.List.{length-map, get_or-map}
use Rattle.std.proofs.lemmas.Option.{slice_get_within, slice_get-get_or, get_or_from_slice_get}
use Rattle.hpb_rules.specs.Tree.{Node}
use Rattle.hpb_tree.specs.Inside.{Known, known, AreCopies, nodes_inside, IsSummed, IsChecked}
use Rattle.hpb_tree.specs.declared.tree.Tree.TheInside.{Inside}
use Rattle.hpb_tree.specs.declared.tree.TreeNode.{TreeNode}
use Rattle.hpb_tree.proofs.Lists.{map_map}

pub copied_views : (old new : List TreeNode) → AreCopies old new → nodes_inside new ≡ nodes_inside old
copied_views old new e = sym (map_map known (λ (k : Known). k.node) new) ∙ ap (map (λ (k : Known). k.node)) e ∙ map_map known (λ (k : Known). k.node) old

known_at : (old new : List TreeNode) → AreCopies old new → (i : ℕ) (n : TreeNode) → i < length new → known (get_or new i n) ≡ known (get_or old i n)
known_at old new e i n h =
    sym (get_or-map known new i n (known n) h)
    ∙ ap (λ xs. get_or xs i (known n)) e
    ∙ get_or-map known old i n (known n) (omega (arith, length-map new known, length-map old known, ap length e))

summed_known : (nodes : List Node) (i : ℕ) (m n : TreeNode) → known n ≡ known m → IsSummed nodes i m → IsSummed nodes i n
summed_known nodes i m n e s = record {
  units = ap (λ (k : Known). k.units) e ∙ s.units;
  most_units = omega (arith, ap (λ (k : Known). k.units) e, s.most_units);
  opening = ap (λ (k : Known). k.opening) e ∙ s.opening;
  most_opening = omega (arith, ap (λ (k : Known). k.opening) e, s.most_opening);
  licences = rw (ap (λ (k : Known). k.licences) e) s.licences;
  children = ap (λ (k : Known). k.children) e ∙ s.children;
  rank = λ p up. ap (λ (k : Known). k.rank) e ∙ s.rank p up;
}

pub checked_copy : (old new : Inside) → new.step ≡ old.step → new.percent ≡ old.percent → AreCopies old.nodes.items new.nodes.items → new.ids.items ≡ old.ids.items → IsChecked old → IsChecked new
checked_copy old new step percent e ids c = record {
  some_step = omega (arith, c.some_step);
  most_step = omega (arith, c.most_step);
  some_percent = omega (arith, c.some_percent);
  most_percent = omega (arith, c.most_percent);
  some_node = omega (arith, count, c.some_node);
  most_nodes = omega (arith, count, c.most_nodes);
  tree = rw seen c.tree;
  most_licences = rw seen c.most_licences;
  ids = rw seen (ids ∙ c.ids);
  sums = λ i n found. rw seen (one i n found);
}
  where
    seen : nodes_inside new.nodes.items ≡ nodes_inside old.nodes.items
    seen = copied_views old.nodes.items new.nodes.items e

    count : length new.nodes.items ≡ length old.nodes.items
    count = omega (arith, length-map new.nodes.items known, length-map old.nodes.items known, ap length e)

    one : (i : ℕ) (n : TreeNode) → slice_get new.nodes.items i ≡ Some n → IsSummed (nodes_inside old.nodes.items) i n
    one i n found =
        let small : i < length new.nodes.items = slice_get_within new.nodes.items i n found in
        let here : get_or new.nodes.items i n ≡ n = get_or_from_slice_get new.nodes.items i n n found in
        summed_known (nodes_inside old.nodes.items) i (get_or old.nodes.items i n) n
        (ap known (sym here) ∙ known_at old.nodes.items new.nodes.items e i n small)
        (c.sums i (get_or old.nodes.items i n) (slice_get-get_or old.nodes.items i n (omega (arith, count))))
