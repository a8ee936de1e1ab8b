use Rattle.std.proofs.Common.{◌≡◌, true, false, refl}
use Rattle.std.specs.Char.{encode_utf8}
use Rattle.std.specs.Str.{chars}
use Rattle.clap.specs.Faults.{defaults_fault, flags_fault, walk_fault}
use Rattle.clap.specs.Walk.{bundle_met, walked}
use Rattle.hpb_words.proofs.laws.words_ask_for.Goals as goal

pub returns : goal.returns
unfolding walk_fault defaults_fault walked flags_fault bundle_met chars encode_utf8
returns c = record {
  none = refl;
  alone = λ program. record { name = refl; script = refl; end = refl; help = refl; version = refl; word = refl; empty = refl; option = refl; letter = refl; first = refl };
  format = λ program. record { format = refl; formats = refl; formats_cells = refl; below_layout = refl; above_layout = refl; signed_layout = λ given. let no : false ≡ true = given.2 in cc; format_help = refl; no_file = refl; no_journal = refl; no_number = refl };
  check = λ program. record { check = refl; checks = refl; check_help = refl; check_file = refl; no_name = λ given. given.0 refl };
  run = λ program. record { run = refl; runs = refl; run_alone = refl; runs_alone = refl; run_help = refl; run_file = refl; least_batch = refl; most_batch = refl; below_batch = refl; above_batch = refl; signed_every = λ given. let no : false ≡ true = given.4 in cc };
  serve = λ program. record { signed_port = λ given. let no : false ≡ true = given.5 in cc; serve = refl; serves = refl; serve_help = refl; serve_file = refl; serve_port = refl; serve_sessions = refl; least_port = refl; most_port = refl; below_port = refl; above_port = refl; least_sessions = refl; most_sessions = refl; below_sessions = refl; above_sessions = refl };
}
