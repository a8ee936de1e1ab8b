use Rattle.std.proofs.Common.{length, ap, ◌∙◌, Some, arith}
use Rattle.hpb_rules.specs.Tree.{Rules}
use Rattle.hpb_tree.proofs.Kept.{Kept, kept}
use Rattle.hpb_tree.proofs.Found.{bidder_position}
use Rattle.hpb_tree.proofs.definition.Definition.search_bidder.Goals as goal

pub returns-in-Some-clause-value : goal.returns-in-Some-clause-value
returns-in-Some-clause-value c = ap Some c.new.ensures ∙ rw c.as_slice.ensures.value at c.in-Some.ensures.value ∙ bidder_position c.self.inside.bidders.items c.args.name.now (ap (λ (r : Rules). r.bidders) c.self.view_is)

pub returns-in-None-clause-value : goal.returns-in-None-clause-value
returns-in-None-clause-value c = rw c.as_slice.ensures.value at c.in-None.ensures.value ∙ bidder_position c.self.inside.bidders.items c.args.name.now (ap (λ (r : Rules). r.bidders) c.self.view_is)

pub new-requires : goal.new-requires
new-requires c =
    let facts : Kept c.self.inside = kept c.self.inside c.self.invariant in
    omega (arith, c.in-Some.ensures.within, ap length c.as_slice.ensures.value)
