use Rattle.hpb_journal.proofs.Containing.{shows_the_same}
use Rattle.hpb_journal.proofs.laws.closed_shows_nothing.Goals as goal

pub returns : goal.returns
returns g c = shows_the_same (g.F.Frames.layout c.args.frames.now) c.laws.ensures
