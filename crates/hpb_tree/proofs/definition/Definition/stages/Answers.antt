use Rattle.hpb_tree.proofs.Kept.{kept}
use Rattle.hpb_tree.proofs.definition.Definition.stages.Goals as goal

pub returns-clause-some : goal.returns-clause-some
returns-clause-some c = rw c.as_slice.ensures.value (kept c.self.inside c.self.invariant).some_stage

pub returns-clause-most : goal.returns-clause-most
returns-clause-most c = rw c.as_slice.ensures.value (kept c.self.inside c.self.invariant).most_stages

pub returns-clause-least : goal.returns-clause-least
returns-clause-least c = rw c.as_slice.ensures.value (kept c.self.inside c.self.invariant).least_percentage

pub returns-clause-greatest : goal.returns-clause-greatest
returns-clause-greatest c = rw c.as_slice.ensures.value (kept c.self.inside c.self.invariant).most_percentage
