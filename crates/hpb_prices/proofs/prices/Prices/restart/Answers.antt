use Rattle.std.proofs.Common.{replicate, ap, ◌∙◌, arith}
use Rattle.std.proofs.lemmas.List.{with_items_is}
use Rattle.hpb_winners.specs.View.{no_bid}
use Rattle.hpb_prices.proofs.NoPrice.{prices_none, minima_none}
use Rattle.hpb_prices.proofs.prices.Prices.restart.Goals as goal

pub returns : goal.returns
returns c = record {
  was = no_bid;
  prices = prices_none c.args.tree.now.nodes c.facts.ensures.tree (c.fill.ensures.items (λ y h. h) ∙ ap (λ k. replicate k 0) (c.self.inside.prices.ok.0 ∙ c.self.invariant.prices));
  minima = minima_none c.args.tree.now.nodes c.facts.ensures.tree c.args.tree.now.step c.args.tree.now.percent
      (with_items_is c.self.inside.minima c.set_first_minima.new.minima (omega arith)) c.set_first_minima.ensures;
}
