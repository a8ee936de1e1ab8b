use Rattle.std.proofs.Common.{◌≡◌, ◌∙◌, List, [], Option, true, ap, map, sym, subst}
use Rattle.clap.specs.Faults.{fault_of, is_simple_and_free}
use Rattle.clap.specs.Simple.{App, app_of, is_simple, subcommand_of}
use Rattle.clap.specs.Values.{kind_of}
use Rattle.clap.specs.Walk.{Row, Text}
use Rattle.hpb_words.specs.Words.{AreWellGiven, HasKnownCommand, IsJobOf, hpb}
use Rattle.hpb_words.proofs.Asking.{known_command, told_asked, told_value}
use Rattle.hpb_words.proofs.words.read_words.Goals as goal

pub job_of-requires : goal.job_of-requires
job_of-requires g c =
    let words = map g.S.AsStr.text c.args.words.now in
    let is : app_of c.in_ok-command.command ≡ hpb = c.in_ok-command.ensures in
    let simple : is_simple (app_of c.in_ok-command.command) ≡ true = ap is_simple is in
    let found = (c.in-Ok.ensures.matches simple).1 ∙ ap (λ (a : App). subcommand_of a words) is in
    subst HasKnownCommand (sym found) (known_command words)

pub returns-in-Ok-check_values-clause-asked : goal.returns-in-Ok-check_values-clause-asked
returns-in-Ok-check_values-clause-asked g c =
    let words = map g.S.AsStr.text c.args.words.now in
    let is : app_of c.in_ok-command.command ≡ hpb = c.in_ok-command.ensures in
    let simple : is_simple (app_of c.in_ok-command.command) ≡ true = ap is_simple is in
    let free : is_simple_and_free (app_of c.in_ok-command.command) ≡ true = ap is_simple_and_free is in
    let found = (c.in-Ok.ensures.matches simple).1 ∙ ap (λ (a : App). subcommand_of a words) is in (
      subst (λ (a : App). fault_of a words ≡ []) is (c.in-Ok.ensures.kinds free),
      subst AreWellGiven found c.in-Ok-check_values.ensures,
      subst (λ (s : Option (Text × List Row)). IsJobOf s c.job_of.result) found c.job_of.ensures.job,
    )

pub returns-in-Ok-clause-asked : goal.returns-in-Ok-clause-asked
returns-in-Ok-clause-asked g c =
    let words = map g.S.AsStr.text c.args.words.now in
    let is : app_of c.in_ok-command.command ≡ hpb = c.in_ok-command.ensures in
    let simple : is_simple (app_of c.in_ok-command.command) ≡ true = ap is_simple is in
    let free : is_simple_and_free (app_of c.in_ok-command.command) ≡ true = ap is_simple_and_free is in
    let found = (c.in-Ok.ensures.matches simple).1 ∙ ap (λ (a : App). subcommand_of a words) is in
    told_value words c.in_ok-refused_value-in-Err-check_values.field-0 (subst (λ (a : App). fault_of a words ≡ []) is (c.in-Ok.ensures.kinds free))
    (λ given. c.in-Err-check_values.ensures (subst AreWellGiven (sym found) given)) c.in_ok-refused_value-in-Err-check_values.ensures

pub returns-clause-asked : goal.returns-clause-asked
returns-clause-asked g c =
    told_asked (map g.S.AsStr.text c.args.words.now) (app_of c.in_ok-command.command) (kind_of c.in-Err.error) c.in_ok-refused-in-Err.field-0 c.in_ok-command.ensures c.in-Err.ensures.kinds c.in_ok-refused-in-Err.ensures.told
