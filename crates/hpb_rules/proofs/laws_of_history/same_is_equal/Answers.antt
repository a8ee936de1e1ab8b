use Rattle.hpb_rules.proofs.Sameness
use Rattle.hpb_rules.proofs.laws_of_history.same_is_equal.Goals as goal

pub returns : goal.returns
returns c = Sameness.same_is_equal
