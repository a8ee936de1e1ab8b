use Rattle.std.proofs.Common.{max, get_or, set, ap, sym, ◌∙◌, ◌+◌, ◌-◌, arith}
use Rattle.hpb_winners.proofs.Renewing.{IsRenewal, newer_most, small_more, part_here, part_most, part_sums, top_here, top_revenue_most, top_sums}
use Rattle.hpb_winners.proofs.winners.renew.Goals as goal
use Rattle.hpb_winners.proofs.winners.renew.Goals.{After-max-newer}

renewal : (c : After-max-newer) → IsRenewal c.args.tree.now.nodes c.args.outcome.now c.args.node c.max-newer.result
renewal c = record {
  tree = c.facts.ensures.tree;
  few = c.facts.ensures.most_nodes;
  sums = c.requires.sums;
  small = c.requires.small;
  within = c.requires.node;
  high = c.high_bid.result;
  amount = c.high_bid.ensures.most;
  is = c.max-newer.ensures ∙ ap (max c.high_bid.result) c.inside.ensures;
}

pub form-requires-clause-most : goal.form-requires-clause-most
form-requires-clause-most c = newer_most (renewal (goal.at.form-requires-clause-most c).After-max-newer)

pub replace_inside-requires-clause-part : goal.replace_inside-requires-clause-part
replace_inside-requires-clause-part c = omega (arith, part_here (renewal (goal.at.replace_inside-requires-clause-part c).After-max-newer) (sym c.in-Some.ensures.value), c.value-older.ensures, ap (λ xs. get_or xs c.in-Some.parent 0) c.form.ensures.inside)

pub replace_inside-requires-clause-most : goal.replace_inside-requires-clause-most
replace_inside-requires-clause-most c = omega (arith, part_most (renewal (goal.at.replace_inside-requires-clause-most c).After-max-newer) (sym c.in-Some.ensures.value), c.value-older.ensures, ap (λ xs. get_or xs c.in-Some.parent 0) c.form.ensures.inside)

pub replace_revenue-requires-clause-part : goal.replace_revenue-requires-clause-part
replace_revenue-requires-clause-part c = omega (arith, top_here (renewal (goal.at.replace_revenue-requires-clause-part c).After-max-newer) (sym c.in-None.ensures.value), c.value-older.ensures, c.form.ensures.revenue)

pub replace_revenue-requires-clause-most : goal.replace_revenue-requires-clause-most
replace_revenue-requires-clause-most c = omega (arith, top_revenue_most (renewal (goal.at.replace_revenue-requires-clause-most c).After-max-newer) (sym c.in-None.ensures.value), c.value-older.ensures, c.form.ensures.revenue)

pub returns-in-Some-clause-sums : goal.returns-in-Some-clause-sums
returns-in-Some-clause-sums c =
    part_sums (renewal (goal.at.returns-in-Some-clause-sums c).After-max-newer) (sym c.in-Some.ensures.value)
    (c.replace_inside.ensures.values ∙ c.form.ensures.values)
    (c.replace_inside.ensures.inside ∙ ap (λ xs. set xs c.in-Some.parent (get_or xs c.in-Some.parent 0 - c.value-older.result + c.max-newer.result)) c.form.ensures.inside
    ∙ ap (λ x. set c.args.outcome.now.inside c.in-Some.parent (get_or c.args.outcome.now.inside c.in-Some.parent 0 - x + c.max-newer.result)) c.value-older.ensures)
    (c.replace_inside.ensures.revenue ∙ c.form.ensures.revenue)

pub returns-in-Some-clause-small : goal.returns-in-Some-clause-small
returns-in-Some-clause-small c =
    small_more (renewal (goal.at.returns-in-Some-clause-small c).After-max-newer)
    (c.replace_inside.ensures.values ∙ c.form.ensures.values)

pub returns-in-None-clause-sums : goal.returns-in-None-clause-sums
returns-in-None-clause-sums c =
    top_sums (renewal (goal.at.returns-in-None-clause-sums c).After-max-newer) (sym c.in-None.ensures.value)
    (c.replace_revenue.ensures.values ∙ c.form.ensures.values)
    (c.replace_revenue.ensures.inside ∙ c.form.ensures.inside)
    (omega (arith, c.replace_revenue.ensures.revenue, c.form.ensures.revenue, c.value-older.ensures))

pub returns-in-None-clause-small : goal.returns-in-None-clause-small
returns-in-None-clause-small c =
    small_more (renewal (goal.at.returns-in-None-clause-small c).After-max-newer)
    (c.replace_revenue.ensures.values ∙ c.form.ensures.values)
