use Rattle.std.proofs.Common.{◌≡◌, ℕ, ◌<◌, false}
use Rattle.hpb_rules.specs.Drafts.{are_bad_terms}
use Rattle.hpb_rules.specs.Tree.{terms_of}
use Rattle.hpb_tree.specs.Draft.{nodes_said}
use Rattle.hpb_tree.proofs.checking.terms.has_bad_terms.Given as goal

abbrev pub invariant-loop-place : goal.invariant-loop-place
invariant-loop-place l = (k : ℕ) → k < l.place → are_bad_terms l.step (terms_of (nodes_said l.nodes) k) ≡ false
