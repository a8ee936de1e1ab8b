use Rattle.std.proofs.Common.{◌≡◌, ℕ, Some, take}
use Rattle.std.specs.List.{slice_get}
use Rattle.hpb_tree.specs.Inside.{nodes_inside, IsSummed}
use Rattle.hpb_tree.specs.Draft.{nodes_said}
use Rattle.hpb_tree.specs.declared.tree.TreeNode.{TreeNode}
use Rattle.hpb_tree.proofs.building.build_nodes.Given as goal

abbrev pub invariant-loop-place : goal.invariant-loop-place
invariant-loop-place l = (nodes_inside l.built.items ≡ take l.place (nodes_said l.nodes)) × ((i : ℕ) (n : TreeNode) → slice_get l.built.items i ≡ Some n → IsSummed (nodes_said l.nodes) i n)
