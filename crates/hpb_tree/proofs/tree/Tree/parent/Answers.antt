use Rattle.std.proofs.Common.{ap, subst}
use Rattle.hpb_rules.specs.Tree.{TreeRules, IsTree}
use Rattle.hpb_tree.proofs.Views.{IsNodeRead, parent_at, parent_before}
use Rattle.hpb_tree.proofs.tree.Tree.parent.Goals as goal

pub returns : goal.returns
returns c =
    let read : IsNodeRead c.self.inside.nodes.items c.args.self.now.nodes c.place-index.result c.args.node c.index.result.now =
    record { seen = ap (λ (t : TreeRules). t.nodes) c.self.view_is; found = c.index.ensures; same = c.place-index.ensures.value; within = c.requires } in
    record {
      value = parent_at read;
      before = parent_before c.args.self.now.nodes (subst IsTree read.seen c.self.invariant.tree) c.args.node c.index.result.now.parent (parent_at read);
    }
