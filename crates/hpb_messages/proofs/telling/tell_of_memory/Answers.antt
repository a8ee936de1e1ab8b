use Rattle.std.proofs.Common.{codes, sym, subst}
use Rattle.hpb_server.specs.Telling.{TellsOf}
use Rattle.hpb_messages.proofs.telling.tell_of_memory.Goals as goal

pub returns-in-Memory : goal.returns-in-Memory
returns-in-Memory g c = subst (TellsOf _ _) (sym c.in-Memory.is) (codes "memory was refused", c.tell_memory.ensures)
