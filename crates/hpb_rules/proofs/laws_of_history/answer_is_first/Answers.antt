use Rattle.hpb_rules.proofs.Orders
use Rattle.hpb_rules.proofs.laws_of_history.answer_is_first.Goals as goal

pub returns : goal.returns
returns c = Orders.answer_is_first
