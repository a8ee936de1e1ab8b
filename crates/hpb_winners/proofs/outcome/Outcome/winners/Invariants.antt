use Rattle.std.proofs.Common.{◌≡◌, ◌^◌}
use Rattle.hpb_winners.proofs.Masks.{IsMaskOf, AreFlagsOf, wins_at, is_covered}
use Rattle.hpb_winners.proofs.outcome.Outcome.winners.Given as goal

abbrev pub invariant-loop-place : goal.invariant-loop-place
invariant-loop-place l = record {
  bit : l.bit ≡ 2 ^ l.place;
  winners : IsMaskOf (wins_at l.self.parents l.self.inside l.self.values) l.place l.winners;
  covered : AreFlagsOf (is_covered l.self.parents l.self.inside l.self.values) l.place l.covered;
}
