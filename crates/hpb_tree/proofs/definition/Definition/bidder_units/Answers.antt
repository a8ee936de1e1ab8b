use Rattle.std.proofs.Common.{ap, refl, arith}
use Rattle.hpb_rules.specs.Tree.{Rules}
use Rattle.hpb_tree.specs.declared.definition.Bidder.{Bidder}
use Rattle.hpb_tree.proofs.Kept.{Kept, kept}
use Rattle.hpb_tree.proofs.Found.{IsBidderRead, bidder_at, bidder_inside}
use Rattle.hpb_tree.proofs.definition.Definition.bidder_units.Goals as goal

pub returns : goal.returns
returns c =
    let read : IsBidderRead c.self.inside.bidders.items c.args.self.now.bidders c.place-index.result c.args.bidder c.index.result.now =
    record { seen = ap (λ (d : Rules). d.bidders) c.self.view_is; found = c.index.ensures; same = c.place-index.ensures.value; within = c.requires } in
    let facts : Kept c.self.inside = kept c.self.inside c.self.invariant in
    record {
      value = rw (bidder_at read) refl;
      some = omega (arith, ap (λ (b : Bidder). b.units) c.index.ensures, facts.some_units c.place-index.result c.index.result.now (bidder_inside read));
      most = omega (arith, ap (λ (b : Bidder). b.units) c.index.ensures, facts.most_units c.place-index.result c.index.result.now (bidder_inside read));
    }
