use Rattle.std.proofs.Common.{◌≡◌, ℕ, ◌<◌, get_or, None}
use Rattle.hpb_rules.specs.Tree.{parent_of}
use Rattle.hpb_winners.specs.View.{AreBefore}
use Rattle.hpb_winners.proofs.outcome.keep_parents.Given as goal

abbrev pub invariant-loop-place : goal.invariant-loop-place
invariant-loop-place l = record {
  kept : (n : ℕ) → n < l.place → get_or l.parents n None ≡ parent_of l.tree.nodes n;
  before : AreBefore l.parents;
}
