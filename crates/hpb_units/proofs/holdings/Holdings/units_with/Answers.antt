use Rattle.std.proofs.Common.{◌≡◌, ◌+◌, ◌||◌, ◌∙◌, arith}
use Rattle.hpb_rules.specs.Tree.{at_or_under, sum_over, units_at}
use Rattle.hpb_units.specs.Holdings.{holds}
use Rattle.hpb_units.proofs.Held.{read_held, read_apart, sum_over_small}
use Rattle.hpb_units.proofs.Summing.{others_within, read_others}
use Rattle.hpb_units.proofs.holdings.Holdings.units_with.Goals as goal
use Rattle.hpb_units.proofs.holdings.Holdings.units_with.Goals.{After-units, After-units_of_licences}

pub returns-then-own-more-clause-value : goal.returns-then-own-more-clause-value
returns-then-own-more-clause-value c =
    c.activity.ensures
    ∙ c.requires.summed.sums c.args.bidder c.licences-own.ensures.within
    ∙ read_held c.args.tree.now.nodes c.licences-more.result c.args.node c.licences-more.ensures c.licences-own.ensures.value c.if-own-more.true

-- the units of a node of which the bidder holds nothing are added
apart : (c : After-units) → c.activity-then-own-more-eq0.result + c.units.result ≡ sum_over c.args.tree.now.nodes (λ l. holds c.args.tree.now.nodes c.args.self.now c.args.bidder l || at_or_under c.args.tree.now.nodes c.args.node l) (units_at c.args.tree.now.nodes)
apart c = omega (
  arith,
  c.activity-then-own-more-eq0.ensures,
  c.requires.summed.sums c.args.bidder c.licences-own.ensures.within,
  c.units.ensures.value,
  read_apart c.args.tree.now.nodes c.licences-more.result c.args.node c.licences-more.ensures c.licences-own.ensures.value c.if-own-more-eq0.true,
)

-- so are those of its licences that the bidder doesn't hold
others : (c : After-units_of_licences) → c.activity-2.result + c.units_of_licences.result ≡ sum_over c.args.tree.now.nodes (λ l. holds c.args.tree.now.nodes c.args.self.now c.args.bidder l || at_or_under c.args.tree.now.nodes c.args.node l) (units_at c.args.tree.now.nodes)
others c = omega (
  arith,
  c.activity-2.ensures,
  c.requires.summed.sums c.args.bidder c.licences-own.ensures.within,
  c.units_of_licences.ensures,
  read_others c.args.tree.now.nodes c.licences-more.result c.args.node c.licences-more.ensures c.facts.ensures.most_licences (omega arith) c.licences-own.ensures.value,
)

pub overflow_add-result : goal.overflow_add-result
overflow_add-result c =
    omega (
      arith,
      apart (goal.at.overflow_add-result c).After-units,
      c.facts.ensures.most_licences,
      sum_over_small c.args.tree.now.nodes (λ l. holds c.args.tree.now.nodes c.args.self.now c.args.bidder l || at_or_under c.args.tree.now.nodes c.args.node l) c.requires.small,
    )

pub returns-then-own-more-eq0-clause-value : goal.returns-then-own-more-eq0-clause-value
returns-then-own-more-eq0-clause-value c = apart (goal.at.returns-then-own-more-eq0-clause-value c).After-units

pub overflow_add-result-2 : goal.overflow_add-result-2
overflow_add-result-2 c =
    omega (
      arith,
      others (goal.at.overflow_add-result-2 c).After-units_of_licences,
      c.facts.ensures.most_licences,
      sum_over_small c.args.tree.now.nodes (λ l. holds c.args.tree.now.nodes c.args.self.now c.args.bidder l || at_or_under c.args.tree.now.nodes c.args.node l) c.requires.small,
    )

pub units_of_licences-requires-clause-within : goal.units_of_licences-requires-clause-within
units_of_licences-requires-clause-within c = others_within c.args.tree.now.nodes c.licences-own.result c.licences-more.result c.args.node c.licences-more.ensures

pub returns-clause-value : goal.returns-clause-value
returns-clause-value c = others (goal.at.returns-clause-value c).After-units_of_licences
