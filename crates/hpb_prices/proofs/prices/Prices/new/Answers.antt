use Rattle.std.proofs.Common.{arith}
use Rattle.std.proofs.lemmas.List.{with_items_is}
use Rattle.hpb_prices.proofs.NoPrice.{prices_none, minima_none}
use Rattle.hpb_prices.proofs.prices.Prices.new.Goals as goal

pub returns-clause-prices : goal.returns-clause-prices
returns-clause-prices c = prices_none c.args.tree.now.nodes c.facts.ensures.tree (c.in_ok-prices.ensures.items_if_clones_equal (λ y e. e))

pub returns-clause-minima : goal.returns-clause-minima
returns-clause-minima c = minima_none c.args.tree.now.nodes c.facts.ensures.tree c.args.tree.now.step c.args.tree.now.percent
    (with_items_is c.in_ok-minima.minima c.set_first_minima.new.minima (omega arith)) c.set_first_minima.ensures
