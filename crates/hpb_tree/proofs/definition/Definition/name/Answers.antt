use Rattle.std.proofs.Common.{◌≡◌, ap, ◌∙◌}
use Rattle.hpb_rules.specs.Text.{node_name}
use Rattle.hpb_rules.specs.Tree.{Rules}
use Rattle.hpb_tree.proofs.Accepted.{Accepted, node_name_valid, node_found}
use Rattle.hpb_tree.proofs.Kept.{accepted_value}
use Rattle.hpb_tree.proofs.definition.Definition.name.Goals as goal

pub returns : goal.returns
returns c =
    let value : c.name.result.now ≡ node_name c.args.self.now.nodes c.args.node = c.name.ensures ∙ ap (λ (d : Rules). node_name d.nodes c.args.node) c.self.view_is in
    let accepted : Accepted c.args.self.now = accepted_value c.self.inside c.args.self.now c.self.invariant c.self.view_is in
    record {
      value = value;
      valid = rw value (node_name_valid c.args.self.now accepted c.args.node c.requires);
      found = rw value (node_found c.args.self.now accepted c.args.node c.requires);
    }
