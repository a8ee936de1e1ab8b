use Rattle.std.proofs.Common.{◌-◌, ◌<◌, length, ap, arith}
use Rattle.hpb_rules.specs.Tree.{Rules}
use Rattle.hpb_tree.proofs.Kept.{kept}
use Rattle.hpb_tree.proofs.definition.Definition.percentage.Goals as goal
use Rattle.hpb_tree.proofs.definition.Definition.percentage.Goals.{After-index}

within : (c : After-index) → c.from-index.result - 1 < length c.self.inside.stages.items
within c = omega (arith, ap (λ (d : Rules). length d.stages) c.self.view_is)

pub returns-clause-least : goal.returns-clause-least
returns-clause-least c = omega (arith, c.index.ensures, (kept c.self.inside c.self.invariant).least_percentage (c.from-index.result - 1) c.index.result.now (within (goal.at.returns-clause-least c).After-index))

pub returns-clause-greatest : goal.returns-clause-greatest
returns-clause-greatest c = omega (arith, c.index.ensures, (kept c.self.inside c.self.invariant).most_percentage (c.from-index.result - 1) c.index.result.now (within (goal.at.returns-clause-greatest c).After-index))
