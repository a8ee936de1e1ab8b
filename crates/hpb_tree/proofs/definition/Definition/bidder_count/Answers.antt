use Rattle.std.proofs.Common.{arith}
use Rattle.hpb_tree.proofs.Kept.{Kept, kept}
use Rattle.hpb_tree.proofs.definition.Definition.bidder_count.Goals as goal

pub returns-clause-some : goal.returns-clause-some
returns-clause-some c = let facts : Kept c.self.inside = kept c.self.inside c.self.invariant in omega arith

pub returns-clause-most : goal.returns-clause-most
returns-clause-most c = let facts : Kept c.self.inside = kept c.self.inside c.self.invariant in omega arith
