use Rattle.hpb_journal.proofs.Containing as containing
use Rattle.hpb_journal.proofs.laws.open_or_closed.Goals as goal

pub returns : goal.returns
returns g c = containing.open_or_closed (g.F.Frames.layout c.args._frames.now)
