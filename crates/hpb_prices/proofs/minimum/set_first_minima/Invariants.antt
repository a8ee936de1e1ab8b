use Rattle.std.proofs.Common.{◌≡◌, ℕ, ◌<◌, length, slice_index}
use Rattle.hpb_rules.specs.declared.limits.TheConstants.{MOST_NODES}
use Rattle.hpb_rules.specs.Tree.{opening as opening_of}
use Rattle.hpb_rules.specs.Prices.{minimum_of}
use Rattle.hpb_prices.proofs.minimum.set_first_minima.Given as goal

abbrev pub invariant-loop-place : goal.invariant-loop-place
invariant-loop-place l = record {
  count : length l.minima ≡ MOST_NODES;
  so_far : (n : ℕ) → n < l.place → slice_index l.minima n ≡ minimum_of l.tree.step l.tree.percent (opening_of l.tree.nodes n) 0;
}
