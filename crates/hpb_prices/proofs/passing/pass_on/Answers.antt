use Rattle.std.proofs.Common.{◌∙◌, arith}
use Rattle.hpb_prices.proofs.Carrying.{parts_set, no_parts}
use Rattle.hpb_prices.proofs.passing.pass_on.Goals as goal

pub returns-then-children-eq0 : goal.returns-then-children-eq0
returns-then-children-eq0 c = λ bid outcome price shares. no_parts c.args.tree.now.nodes bid c.facts.ensures.tree c.children-children.ensures c.if-children-eq0.true shares

pub returns : goal.returns
returns c = λ bid outcome price shares.
    parts_set c.args.tree.now.nodes bid c.facts.ensures.tree c.place.ensures.value (omega (arith, c.place.ensures.value, c.place.ensures.bound)) c.of.ensures
    (c.inside.ensures ∙ outcome.inside c.args.node c.requires.node) (outcome.values c.args.node c.requires.node) price c.children-children.ensures shares
