use Rattle.hpb_journal.proofs.Containing as containing
use Rattle.hpb_journal.proofs.laws.kept_is_one.Goals as goal

pub returns : goal.returns
returns g c rules = containing.kept_is_one (g.F.Frames.layout c.args.frames.now) c.laws.ensures rules
