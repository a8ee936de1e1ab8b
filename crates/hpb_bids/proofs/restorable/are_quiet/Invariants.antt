use Rattle.std.proofs.Common.{◌≡◌, ℕ, ◌<◌, None, get_or}
use Rattle.hpb_rules.specs.declared.saved.SavedNode.{SavedNode}
use Rattle.hpb_bids.proofs.restorable.are_quiet.Given as goal

abbrev pub invariant-loop-place : goal.invariant-loop-place
invariant-loop-place l = (n : ℕ) (d : SavedNode) → n < l.place → (get_or l.nodes n d).incoming ≡ None
