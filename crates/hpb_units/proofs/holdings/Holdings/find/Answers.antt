use Rattle.std.proofs.Common.{sym, arith, subst}
use Rattle.hpb_units.specs.Holdings.{AreLicenceUnits}
use Rattle.hpb_units.proofs.Held.{found_more}
use Rattle.hpb_units.proofs.holdings.Holdings.find.Goals as goal

pub loop-place-preserved : goal.loop-place-preserved
loop-place-preserved c = record {
  found = found_more c.args.tree.now.nodes c.args.books.now c.args.outcome.now c.loop-place.self c.set.new.self c.new-bidder.result c.loop-place.place c.licences_held-licences.result c.units_of.result
      c.new-bidder.ensures c.licences_held-licences.ensures c.units_of.ensures
      (record { licences = c.set.ensures.licences; units = c.set.ensures.units; other_licences = c.set.ensures.other_licences; other_units = c.set.ensures.other_units; licence_units = c.set.ensures.same_licence_units })
      c.loop-place.invariant.found;
  known = subst (AreLicenceUnits c.args.tree.now.nodes) (sym c.set.ensures.same_licence_units) c.loop-place.invariant.known;
}

pub returns : goal.returns
returns c = record {
  licences = λ b l within some. (c.loop-place.invariant.found b (omega (arith, within, c.loop-place-test.false))).licences l some;
  summed = record {
    sums = λ b within. (c.loop-place.invariant.found b (omega (arith, within, c.loop-place-test.false))).units;
    licences = c.loop-place.invariant.known;
  };
}
