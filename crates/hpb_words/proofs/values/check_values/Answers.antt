use Rattle.std.proofs.Common.{List, Option, sym, subst}
use Rattle.std.specs.Prelude.{MatchResult}
use Rattle.clap.specs.Matches.{found_of}
use Rattle.clap.specs.Walk.{Row, Text, rows_of}
use Rattle.hpb_words.specs.Words.{AreWellGiven}
use Rattle.hpb_words.proofs.Options.{found_sub}
use Rattle.hpb_words.proofs.values.check_values.Goals as goal

pub returns-in-Some : goal.returns-in-Some
returns-in-Some c =
    let here = c.in-Some in
    let found = found_sub c.args.matches.now here.field-0-0.now (rows_of (found_of here.options.now)) here.ensures.name here.ensures.rows in
    subst (λ (s : Option (Text × List Row)). MatchResult c.check_options.result (λ _. AreWellGiven s) (λ _. AreWellGiven s → ⊥)) (sym found) c.check_options.ensures
