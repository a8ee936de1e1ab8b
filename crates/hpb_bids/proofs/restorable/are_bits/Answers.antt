use Rattle.std.proofs.Common.{ℕ, eqb, refl, ap, ⊎_elim, arith}
use Rattle.std.proofs.lemmas.Bool.{cases_lt, both_ways}
use Rattle.std.proofs.lemmas.Nat.Bits.{bit_at_above}
use Rattle.hpb_rules.specs.Saved.{has_bit}
use Rattle.hpb_bids.proofs.restorable.are_bits.Goals as goal

pub returns : goal.returns
returns c = (
  λ t node set. ⊎_elim
      (λ less. c.loop-place.invariant node (omega (arith, less, c.loop-place-test.false)) set)
      (λ more. absurd (both_ways (has_bit c.args.mask node) (ap (λ (k : ℕ). eqb k 1) (bit_at_above c.args.mask 128 node c.ranges.mask.fits more)) set))
      (cases_lt node 128),
  λ are. refl,
)
