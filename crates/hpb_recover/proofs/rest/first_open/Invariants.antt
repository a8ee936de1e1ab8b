use Rattle.std.proofs.Common.{◌≡◌, ◌<◌, ◌≤◌, ℕ, false}
use Rattle.std.specs.Prelude.{slice_index_or}
use Rattle.hpb_recover.proofs.rest.first_open.Given as goal

abbrev pub invariant-loop-place : goal.invariant-loop-place
invariant-loop-place l = record {
  shut : (k : ℕ) → l.from ≤ k → k < l.place → slice_index_or l.gates k false ≡ false;
}
