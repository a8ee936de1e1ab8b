use Rattle.std.proofs.Common.{List, Option, sym, subst}
use Rattle.clap.specs.Matches.{found_of}
use Rattle.clap.specs.Walk.{Row, Text, rows_of}
use Rattle.hpb_words.specs.Words.{IsJobOf}
use Rattle.hpb_words.proofs.Options.{found_sub}
use Rattle.hpb_words.proofs.words.job_of.Goals as goal

pub returns-in-Some-clause-job : goal.returns-in-Some-clause-job
returns-in-Some-clause-job c =
    let here = c.in-Some in
    let found = found_sub c.args.matches.now here.name.now (rows_of (found_of here.options.now)) here.ensures.name here.ensures.rows in
    subst (λ (s : Option (Text × List Row)). IsJobOf s c.job_of_command.result) (sym found) c.job_of_command.ensures.job
