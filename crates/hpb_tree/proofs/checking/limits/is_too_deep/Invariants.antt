use Rattle.std.proofs.Common.{◌≡◌, ℕ, ◌<◌, false, nat_lt}
use Rattle.hpb_rules.specs.declared.limits.TheConstants.{MOST_LEVELS}
use Rattle.hpb_rules.specs.Drafts.{depth}
use Rattle.hpb_tree.specs.Draft.{nodes_said}
use Rattle.hpb_tree.proofs.checking.limits.is_too_deep.Given as goal

abbrev pub invariant-loop-place : goal.invariant-loop-place
invariant-loop-place l = (k : ℕ) → k < l.place → nat_lt MOST_LEVELS (depth (nodes_said l.nodes) k) ≡ false
