use Rattle.std.proofs.Common.{◌≡◌, ◌<◌, ◌^◌, slice_index, ap, ◌∙◌, arith}
use Rattle.std.specs.Int.{trailing_zeros, w64}
use Rattle.std.proofs.lemmas.List.{get_or_read}
use Rattle.std.proofs.lemmas.Nat.Bits.{bit_at-trailing_zeros}
use Rattle.hpb_units.specs.Holdings.{HoldingsView}
use Rattle.hpb_units.proofs.Held.{units_of_mask, units_empty}
use Rattle.hpb_units.proofs.Summing.{summed_next, summed_small}
use Rattle.hpb_units.proofs.holdings.Holdings.units_of_licences.Goals.{After-index}
use Rattle.hpb_units.proofs.holdings.Holdings.units_of_licences.Goals as goal

some : (c : After-index) → 0 < c.loop-rest.rest
some c = omega (arith, c.loop-rest-test.true)

fits : (c : After-index) → c.loop-rest.rest < 2 ^ 64
fits c = omega (arith, c.loop-rest.auto.rest-fits)

-- the units of the lowest licence
read : (c : After-index) → c.index.result.now ≡ slice_index c.args.self.now.licence_units (trailing_zeros w64 c.loop-rest.rest)
read c =
    get_or_read c.self.inside.licence_units.items _ _ (omega (arith, c.self.invariant.licence_units, (bit_at-trailing_zeros w64 c.loop-rest.rest (some c) (fits c)).0)) c.index.ensures 0
    ∙ ap (λ (holdings : HoldingsView). slice_index holdings.licence_units (trailing_zeros w64 c.loop-rest.rest)) c.self.view_is

pub overflow_add-total : goal.overflow_add-total
overflow_add-total c =
    let here = (goal.at.overflow_add-total c).After-index in
    omega (
      arith,
      read here,
      c.facts.ensures.most_licences,
      summed_small c.args.tree.now.nodes c.args.self.now.licence_units c.args.licences c.loop-rest.rest c.loop-rest.total c.requires.small c.requires.units (some here) (fits here) c.loop-rest.invariant,
    )

pub loop-rest-preserved : goal.loop-rest-preserved
loop-rest-preserved c =
    let here = (goal.at.loop-rest-preserved c).After-index in
    rw (read here) (summed_next c.args.tree.now.nodes c.args.self.now.licence_units c.args.licences c.loop-rest.rest c.loop-rest.total c.requires.units (some here) (fits here) c.loop-rest.invariant)

pub returns : goal.returns
returns c = omega (arith, c.loop-rest.invariant.summed, ap (units_of_mask c.args.tree.now.nodes) c.loop-rest-test.false, units_empty c.args.tree.now.nodes)
