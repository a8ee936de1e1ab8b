use Rattle.std.proofs.Common.{◌-◌}
use Rattle.hpb_run.proofs.commit.+land.Given as goal

abbrev pub decreases-land : goal.decreases-land
decreases-land g l = 3 - l.engine.now.progress.commit.turns
