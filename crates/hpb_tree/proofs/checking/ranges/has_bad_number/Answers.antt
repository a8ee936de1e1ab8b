use Rattle.std.proofs.Common.{rules}
use Rattle.hpb_tree.proofs.Lists.{mapped}
use Rattle.hpb_tree.proofs.checking.ranges.has_bad_number.Goals as goal

pub returns-else-has_bad_stage : goal.returns-else-has_bad_stage
returns-else-has_bad_stage c = simp mapped (search rules)
