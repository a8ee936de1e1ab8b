use Rattle.std.proofs.Common.{ℕ, ◌<◌, get_or}
use Rattle.hpb_rules.specs.declared.saved.SavedNode.{SavedNode}
use Rattle.hpb_bids.specs.Entries.{IsNodeEntry}
use Rattle.hpb_bids.proofs.restorable.are_nodes.Given as goal

abbrev pub invariant-loop-place : goal.invariant-loop-place
invariant-loop-place l = (n : ℕ) (d : SavedNode) → n < l.place → IsNodeEntry l.definition n (get_or l.nodes n d)
