use Rattle.std.proofs.Common.{ℕ, ◌<◌}
use Rattle.hpb_units.specs.Holdings.{AreLicenceUnits}
use Rattle.hpb_units.proofs.Held.{IsFound}
use Rattle.hpb_units.proofs.holdings.Holdings.find.Given as goal

abbrev pub invariant-loop-place : goal.invariant-loop-place
invariant-loop-place l = record {
  found : (b : ℕ) → b < l.place → IsFound l.tree.nodes l.books l.outcome l.self b;
  known : AreLicenceUnits l.tree.nodes l.self.licence_units;
}
