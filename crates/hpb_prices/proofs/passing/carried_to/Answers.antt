use Rattle.std.proofs.Common.{◌≡◌, ap, ◌∙◌, sym, arith}
use Rattle.hpb_rules.specs.Prices.{carried as carried_of}
use Rattle.hpb_bids.specs.View.{bid_of}
use Rattle.hpb_money.specs.Shares.{part}
use Rattle.hpb_prices.proofs.Carrying.{carried_part, carried_none, carried_small}
use Rattle.hpb_prices.proofs.passing.carried_to.Goals as goal
use Rattle.hpb_prices.proofs.passing.carried_to.Goals.{After-at}

value : (c : After-at) → c.at.result ≡ carried_of c.args.tree.now.nodes (bid_of c.args.books.now) c.args.node
value c = c.at.ensures ∙ ap (λ shares. part shares c.rank.result) c.index-shares-place.is
    ∙ carried_part c.args.tree.now.nodes (bid_of c.args.books.now) c.facts.ensures.tree c.index-shares-place.result c.requires.shares c.in-Some.ensures.value c.place.ensures.value (c.rank.ensures.value c.in-Some.parent (sym c.in-Some.ensures.value))

pub returns-in-Some-clause-value : goal.returns-in-Some-clause-value
returns-in-Some-clause-value c = value c

pub returns-in-None-clause-value : goal.returns-in-None-clause-value
returns-in-None-clause-value c = carried_none c.args.tree.now.nodes (bid_of c.args.books.now) c.facts.ensures.tree c.args.node c.in-None.ensures.value

pub returns-in-Some-clause-most : goal.returns-in-Some-clause-most
returns-in-Some-clause-most c = omega (arith, value c, carried_small c.args.tree.now.nodes (bid_of c.args.books.now) c.facts.ensures.tree c.args.node c.facts-2.ensures.amounts c.requires.node c.facts.ensures.most_nodes)
