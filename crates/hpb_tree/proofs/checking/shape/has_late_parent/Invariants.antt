use Rattle.std.proofs.Common.{◌≡◌, ℕ, ◌<◌, false}
use Rattle.hpb_rules.specs.Drafts.{is_late}
use Rattle.hpb_rules.specs.Tree.{parent_of}
use Rattle.hpb_tree.specs.Draft.{nodes_said}
use Rattle.hpb_tree.proofs.checking.shape.has_late_parent.Given as goal

abbrev pub invariant-loop-place : goal.invariant-loop-place
invariant-loop-place l = (k : ℕ) → k < l.place → is_late k (parent_of (nodes_said l.nodes) k) ≡ false
