use Rattle.std.proofs.Common.{◌≡◌, ℕ, ◌<◌, false, ◌&&◌, nat_lt}
use Rattle.std.specs.Option.{is_none}
use Rattle.hpb_rules.specs.Drafts.{children_of}
use Rattle.hpb_rules.specs.Tree.{terms_of}
use Rattle.hpb_tree.specs.Draft.{nodes_said}
use Rattle.hpb_tree.proofs.checking.shape.has_thin_package.Given as goal

abbrev pub invariant-loop-place : goal.invariant-loop-place
invariant-loop-place l = (k : ℕ) → k < l.place → (is_none (terms_of (nodes_said l.nodes) k) && nat_lt (children_of (nodes_said l.nodes) k) 2) ≡ false
