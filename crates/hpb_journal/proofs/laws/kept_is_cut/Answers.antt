use Rattle.hpb_journal.proofs.Containing as containing
use Rattle.hpb_journal.proofs.laws.kept_is_cut.Goals as goal

pub returns : goal.returns
returns g c rules = containing.kept_is_cut (g.F.Frames.layout c.args._frames.now) rules
