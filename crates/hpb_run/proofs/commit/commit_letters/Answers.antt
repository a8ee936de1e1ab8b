use Rattle.hpb_rules.specs.Letters.{judged}
use Rattle.hpb_run.proofs.Leaving.{none_left}
use Rattle.hpb_run.proofs.commit.commit_letters.Goals as goal

pub returns-in_err-answers-clause-since : goal.returns-in_err-answers-clause-since
returns-in_err-answers-clause-since g c history keeps = none_left history (judged c.args.engine.now.progress.committed.rules history c.args.letters) _ keeps.images
