use Rattle.std.proofs.Common.{slice_index, ap, ◌∙◌, arith}
use Rattle.std.proofs.lemmas.List.{with_items_is}
use Rattle.hpb_bids.specs.View.{bid_of}
use Rattle.hpb_rules.proofs.TreeLaws.{certified}
use Rattle.hpb_prices.proofs.passing.downward_along.Goals as goal

pub returns-clause-certificate : goal.returns-clause-certificate
returns-clause-certificate c = certified c.args.tree.now.nodes (bid_of c.args.books.now) c.facts.ensures.tree _
    (λ node h. ap (λ items. slice_index items node) (with_items_is c.prices.inside.prices c.pass_down.new.prices (omega arith)) ∙ c.pass_down.ensures.prices node h)
