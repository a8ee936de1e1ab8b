use Rattle.hpb_journal.proofs.Containing as containing
use Rattle.hpb_journal.proofs.laws.kept_stays.Goals as goal

pub returns : goal.returns
returns g c rules = containing.kept_stays (g.F.Frames.layout c.args._frames.now) rules
