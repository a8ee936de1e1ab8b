use Rattle.std.proofs.Common.{◌≡◌, ℕ, ◌<◌, true, get_or}
use Rattle.std.specs.Prelude.{IsSome}
use Rattle.hpb_rules.specs.Saved.{empty_node, has_bit}
use Rattle.hpb_bids.proofs.restorable.are_bits.Given as goal

abbrev pub invariant-loop-place : goal.invariant-loop-place
invariant-loop-place l = (n : ℕ) → n < l.place → has_bit l.mask n ≡ true → IsSome (get_or l.nodes n empty_node).incoming
