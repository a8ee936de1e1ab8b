use Rattle.std.proofs.Common.{ap}
use Rattle.hpb_rules.specs.Tree.{TreeRules}
use Rattle.hpb_tree.specs.Inside.{IsSummed}
use Rattle.hpb_tree.proofs.Views.{IsNodeRead, summed_at}
use Rattle.hpb_tree.proofs.tree.Tree.opening.Goals as goal

pub returns : goal.returns
returns c =
    let read : IsNodeRead c.self.inside.nodes.items c.args.self.now.nodes c.place-index.result c.args.node c.index.result.now =
    record { seen = ap (λ (t : TreeRules). t.nodes) c.self.view_is; found = c.index.ensures; same = c.place-index.ensures.value; within = c.requires } in
    let kept : IsSummed c.args.self.now.nodes c.args.node c.index.result.now = summed_at read c.self.invariant.sums in
    record { value = kept.opening; most = kept.most_opening }
