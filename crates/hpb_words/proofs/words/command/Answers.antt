use Rattle.std.proofs.Common.{◌≡◌, rules}
use Rattle.std.proofs.lemmas.Result.{IfOk-weaker}
use Rattle.clap.specs.Words.{app_of, with_subcommand}
use Rattle.hpb_words.specs.Words.{check_shape, format_shape, hpb, hpb_alone, run_shape, serve_shape}
use Rattle.hpb_words.proofs.Asking.{added_command}
use Rattle.hpb_words.proofs.words.command.Goals as goal

pub returns : goal.returns
returns c =
    let alone : app_of c.disable_help_subcommand.result ≡ hpb_alone = search rules in
    let one = added_command _ _ _ hpb_alone format_shape c.in_ok-subcommand.ensures c.in_ok-format_command.ensures.1 alone c.in_ok-format_command.ensures.0 in
    let two = added_command _ _ _ (with_subcommand hpb_alone format_shape) check_shape c.in_ok-subcommand-2.ensures c.in_ok-check_command.ensures.1 one c.in_ok-check_command.ensures.0 in
    let three = added_command _ _ _ (with_subcommand (with_subcommand hpb_alone format_shape) check_shape) run_shape c.in_ok-subcommand-3.ensures c.in_ok-run_command.ensures.1 two c.in_ok-run_command.ensures.0 in
    IfOk-weaker c.subcommand-4.result _ (λ command. app_of command ≡ hpb)
    (λ command adds. added_command _ _ command (with_subcommand (with_subcommand (with_subcommand hpb_alone format_shape) check_shape) run_shape) serve_shape adds c.in_ok-serve_command.ensures.1 three c.in_ok-serve_command.ensures.0)
    c.subcommand-4.ensures
