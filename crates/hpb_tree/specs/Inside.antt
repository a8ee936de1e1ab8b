-- What the code of a tree stands for.
use Rattle.std.specs.Prelude.{◌≡◌, ℕ, ◌<◌, ◌≤◌, ◌*◌, List, map, length, slice_get, Some, string_bytes}
use Rattle.std.specs.List.{range_with_len}
use Rattle.hpb_rules.specs.Tree as tree
use Rattle.hpb_rules.specs.Tree.{TreeRules, Node, IsTree, parent_of, places}
use Rattle.hpb_rules.specs.Prices.{children_among}
use Rattle.hpb_rules.specs.declared.limits.TheConstants.{MOST_NODES, MOST_STEP, MOST_PERCENT, MOST_LICENCES, MOST_LICENCE_UNITS, MOST_LICENCE_OPENING}
use Rattle.hpb_tree.specs.Licences.{IsMask, licence_count}
use Rattle.hpb_tree.specs.declared.tree.TreeNode.{TreeNode}
use Rattle.hpb_tree.specs.declared.tree.Tree.TheInside.{Inside}

-- A node as it was written.
abbrev pub node_inside : TreeNode → Node
node_inside node = record { name = string_bytes node.name; parent = node.parent; terms = node.terms }

-- The nodes as they were written.
abbrev pub nodes_inside : List TreeNode → List Node
nodes_inside nodes = map node_inside nodes

-- A tree is its nodes with the step and the percent.
abbrev pub tree_inside : Inside → TreeRules
tree_inside t = record { step = t.step; percent = t.percent; nodes = nodes_inside t.nodes.items }

-- A node as the code keeps it has, beside the written fields, the sums, licences and rank that the definitions give it.
pub record IsSummed (nodes : List Node) (place : ℕ) (node : TreeNode) : Type 0 where
  pub units : node.units ≡ tree.units nodes place
  pub most_units : node.units ≤ MOST_LICENCES * MOST_LICENCE_UNITS
  pub opening : node.opening ≡ tree.opening nodes place
  pub most_opening : node.opening ≤ MOST_LICENCES * MOST_LICENCE_OPENING
  pub licences : IsMask nodes place node.licences
  pub children : node.children ≡ children_among nodes place (places nodes)
  pub rank : (parent : ℕ) → parent_of nodes place ≡ Some parent → node.rank ≡ children_among nodes parent (range_with_len 0 place)

-- A checked tree has nodes, at most `MOST_NODES`, in the shape of a tree, and each node as it is kept is right.
pub record IsChecked (t : Inside) : Type 0 where
  pub some_step : 0 < t.step
  pub most_step : t.step ≤ MOST_STEP
  pub some_percent : 0 < t.percent
  pub most_percent : t.percent ≤ MOST_PERCENT
  pub some_node : 0 < length t.nodes.items
  pub most_nodes : length t.nodes.items ≤ MOST_NODES
  pub tree : IsTree (nodes_inside t.nodes.items)
  pub most_licences : licence_count (nodes_inside t.nodes.items) ≤ MOST_LICENCES
  pub ids : t.ids.items ≡ places (nodes_inside t.nodes.items)
  pub sums : (place : ℕ) (node : TreeNode) → slice_get t.nodes.items place ≡ Some node → IsSummed (nodes_inside t.nodes.items) place node

-- All that the code knows of a node.
pub record Known : Type 0 where
  pub node : Node
  pub units : ℕ
  pub opening : ℕ
  pub licences : ℕ
  pub children : ℕ
  pub rank : ℕ

-- The fields of a node of the code.
abbrev pub known : TreeNode → Known
known node = record {
  node = node_inside node;
  units = node.units;
  opening = node.opening;
  licences = node.licences;
  children = node.children;
  rank = node.rank;
}

-- The two nodes at each place have the same fields.
abbrev pub AreCopies : List TreeNode → List TreeNode → Type 0
AreCopies old new = map known new ≡ map known old
