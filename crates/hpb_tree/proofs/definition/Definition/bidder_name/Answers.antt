use Rattle.std.proofs.Common.{◌≡◌, ap, ◌∙◌}
use Rattle.hpb_rules.specs.Text.{bidder_name}
use Rattle.hpb_rules.specs.Tree.{Rules}
use Rattle.hpb_tree.proofs.Accepted.{Accepted, bidder_name_valid, bidder_found}
use Rattle.hpb_tree.proofs.Kept.{accepted_value}
use Rattle.hpb_tree.proofs.Found.{IsBidderRead, bidder_name_at}
use Rattle.hpb_tree.proofs.definition.Definition.bidder_name.Goals as goal

pub returns : goal.returns
returns c =
    let read : IsBidderRead c.self.inside.bidders.items c.args.self.now.bidders c.place-index.result c.args.bidder c.index.result.now =
    record { seen = ap (λ (d : Rules). d.bidders) c.self.view_is; found = c.index.ensures; same = c.place-index.ensures.value; within = c.requires } in
    let value : c.as_str.result.now ≡ bidder_name c.args.self.now.bidders c.args.bidder = c.as_str.ensures.value ∙ bidder_name_at read in
    let accepted : Accepted c.args.self.now = accepted_value c.self.inside c.args.self.now c.self.invariant c.self.view_is in
    record {
      value = value;
      valid = rw value (bidder_name_valid c.args.self.now accepted c.args.bidder c.requires);
      found = rw value (bidder_found c.args.self.now accepted c.args.bidder c.requires);
    }
