use Rattle.hpb_rules.proofs.Tickets
use Rattle.hpb_rules.proofs.laws_of_history.tickets_count.Goals as goal

pub returns : goal.returns
returns c = Tickets.tickets_count
