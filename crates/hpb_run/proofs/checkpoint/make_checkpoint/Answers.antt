use Rattle.hpb_rules.specs.Machine.{at_rest}
use Rattle.hpb_disk.proofs.Runs.{leaves_at_first, leaves_within}
use Rattle.hpb_run.proofs.Leaving.{stands_alone}
use Rattle.hpb_run.proofs.checkpoint.make_checkpoint.Goals as goal

pub returns-clause-made : goal.returns-clause-made
returns-clause-made g c history keeps = (c.checkpoint.ensures.keeps _ keeps, c.checkpoint.ensures.makes)

pub returns-clause-since : goal.returns-clause-since
returns-clause-since g c history keeps = leaves_within (stands_alone history) (c.checkpoint.ensures.since (at_rest history) keeps)

pub returns-then-engine-clause-since : goal.returns-then-engine-clause-since
returns-then-engine-clause-since g c history keeps = leaves_at_first _ _ (λ image left. stands_alone history image (keeps.images image left))
