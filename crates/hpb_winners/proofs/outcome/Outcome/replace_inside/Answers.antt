use Rattle.std.proofs.Common.{◌≡◌, ◌∙◌, get_or, ap, sym, arith}
use Rattle.std.proofs.lemmas.List.{length-set}
use Rattle.hpb_winners.specs.View.{OutcomeView}
use Rattle.hpb_winners.specs.declared.outcome.TheConstants.{MOST_VALUE}
use Rattle.hpb_winners.proofs.Tables.{within_read, set_small}
use Rattle.hpb_winners.proofs.outcome.Outcome.replace_inside.Goals as goal

pub invariant_of-self : goal.invariant_of-self
invariant_of-self c =
    let items = c.self.inside.inside.items in
    let read : get_or c.args.self.now.inside c.args.node 0 ≡ c.index.result.now
    = ap (λ (v : OutcomeView). get_or v.inside c.args.node 0) (sym c.self.view_is) ∙ ap (λ n. get_or items n 0) (sym c.place-index.ensures.value)
    ∙ within_read items c.place-index.result c.index.result.now 0 (omega (arith, c.self.invariant.inside)) c.index.ensures in
    record {
      parents = c.self.invariant.parents;
      inside = length-set items c.place-index.result _ ∙ c.self.invariant.inside;
      values = c.self.invariant.values;
      before = c.self.invariant.before;
      most_inside = set_small MOST_VALUE items c.place-index.result _ (omega (arith, read, c.requires.most)) c.self.invariant.most_inside;
      most_value = c.self.invariant.most_value;
      most_revenue = c.self.invariant.most_revenue;
    }
