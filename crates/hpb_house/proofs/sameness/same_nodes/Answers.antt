use Rattle.std.proofs.Common.{rules}
use Rattle.hpb_house.proofs.Slices.{slices_same}
use Rattle.hpb_house.proofs.sameness.same_nodes.Goals as goal

pub returns : goal.returns
returns c = slices_same _ _ _ c.eq.ensures (λ a b. search rules)
