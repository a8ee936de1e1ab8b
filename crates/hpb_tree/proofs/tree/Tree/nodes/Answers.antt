use Rattle.std.proofs.Common.{rules, ◌≡◌}
use Rattle.hpb_rules.specs.Tree.{places}
use Rattle.hpb_tree.proofs.Ids.{ids_count, ids_each, ids_within}
use Rattle.hpb_tree.proofs.tree.Tree.nodes.Goals as goal

pub returns : goal.returns
returns c =
    let seen : c.as_slice.result.now ≡ places c.args.self.now.nodes = search rules in
    record {
      value = seen;
      count = ids_count c.as_slice.result.now c.args.self.now.nodes seen;
      within = ids_within c.as_slice.result.now c.args.self.now.nodes seen;
      each = ids_each c.as_slice.result.now c.args.self.now.nodes seen;
    }
