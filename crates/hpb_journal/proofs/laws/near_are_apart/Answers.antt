use Rattle.hpb_journal.proofs.Containing as containing
use Rattle.hpb_journal.proofs.laws.near_are_apart.Goals as goal

pub returns : goal.returns
returns g c = containing.near_are_apart (g.F.Frames.layout c.args.frames.now) c.laws.ensures
