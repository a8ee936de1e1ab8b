-- The jobs that words ask for, by what `clap` ensures for its commands and options.
use Rattle.std.specs.Prelude.{◌≡◌, ◌≢◌, ◌⊎◌, IfSome, ℕ, ◌<◌, ◌≤◌, ◌^◌, max, min, List, [], ◌∷◌, true, false, pos, codes, unwrap_or, option_map, Option, Some, None, Result, Ok, Err}
use Rattle.std.specs.Str.{all_ascii_digits}
use Rattle.std.specs.Str.Parse.{IsNumeral, digits_value, without_leading_plus}
use Rattle.clap.specs.Simple.{App, Shape, new_app, new_rule, on_top, shape_of, subcommand_of, with_rule, with_subcommand}
use Rattle.clap.specs.Walk.{Row, Rule, first_of, one_of}
use Rattle.clap.specs.Kinds.{IsAmong}
use Rattle.clap.specs.Faults.{fault_of}
use Rattle.clap.specs.declared.builder.command.Command.{Command}
use Rattle.clap.specs.declared.builder.command.Command.TheViews.{out-Command}
use Rattle.clap.specs.declared.builder.value_parser.ValueParser.TheVariants as parsers
use Rattle.clap.specs.declared.error.kind.ErrorKind.{ErrorKind}
use Rattle.clap.specs.declared.error.kind.ErrorKind.TheVariants.{DisplayHelp, DisplayVersion, InvalidSubcommand, MissingRequiredArgument, OutOfMemory, UnknownArgument, ValueValidation}
use Rattle.hpb_codec.specs.Layouts.{layout_byte}
use Rattle.hpb_codec.specs.declared.layout.JournalLayout.{JournalLayout}
use Rattle.hpb_codec.specs.declared.layout.JournalShape.{JournalShape}
use Rattle.hpb_rules.specs.declared.limits.TheConstants.{MOST_LETTERS}
use Rattle.hpb_words.specs.declared.status.TheConstants.{WELL, WRONG_WORDS}
use Rattle.hpb_words.specs.declared.words.Job.{Job}
use Rattle.hpb_words.specs.declared.words.Job.TheVariants.{Script, Format, Check, Run, Serve}
use Rattle.hpb_words.specs.declared.words.TheConstants.{LEAST_PORT, MOST_PORT, MOST_SESSIONS}
use Rattle.hpb_words.specs.declared.words.WordsFault.{WordsFault}
use Rattle.hpb_words.specs.declared.words.WordsFault.TheVariants.{Memory, Refused}

-- An option of a name, with one value, as `clap` sees it.
abbrev pub option_rule : List ℕ → Rule
option_rule name = record (new_rule name) { long = Some name; value_names = 1 }

-- The option that names a file.
abbrev pub file_rule : Rule
file_rule = record (option_rule (codes "file")) { required = true }

-- The option that gives a number of frames, of 32 bits.
abbrev pub journal_rule : Rule
journal_rule = record (option_rule (codes "journal")) { required = true; parser = Some (parsers.Signed (pos 0) (pos 4294967295)) }

-- The option that gives the number of a layout.
abbrev pub layout_rule : Rule
layout_rule = record (option_rule (codes "layout")) { defaults = codes "1" ∷ []; parser = Some (parsers.Signed (pos 1) (pos 2)) }

-- The option that gives the most commands of a batch.
abbrev pub batch_rule : Rule
batch_rule = record (option_rule (codes "batch")) { defaults = codes "1" ∷ []; parser = Some (parsers.Signed (pos 1) (pos 64)) }

-- The option that gives a number of batches, of 32 bits.
abbrev pub every_rule : Rule
every_rule = record (option_rule (codes "every")) { defaults = codes "0" ∷ []; parser = Some (parsers.Signed (pos 0) (pos 4294967295)) }

-- The option that gives a port.
abbrev pub port_rule : Rule
port_rule = record (option_rule (codes "port")) { required = true; parser = Some (parsers.Signed (pos 1024) (pos 65535)) }

-- The option that gives a number of sessions.
abbrev pub sessions_rule : Rule
sessions_rule = record (option_rule (codes "sessions")) { required = true; parser = Some (parsers.Signed (pos 1) (pos 32)) }

-- A command on a file, with no option but that.
abbrev pub app_on_file : List ℕ → App
app_on_file name = with_rule (new_app name) file_rule

abbrev pub file_shape : List ℕ → Shape
file_shape name = (app_on_file name).top

-- The command that makes a file.
abbrev pub format_shape : Shape
format_shape = (with_rule (with_rule (app_on_file (codes "format")) journal_rule) layout_rule).top

-- The command that shows what a file keeps.
abbrev pub check_shape : Shape
check_shape = file_shape (codes "check")

-- The command that runs what a file keeps.
abbrev pub run_shape : Shape
run_shape = (with_rule (with_rule (app_on_file (codes "run")) batch_rule) every_rule).top

-- The command that serves sessions by what a file keeps.
abbrev pub serve_shape : Shape
serve_shape = (with_rule (with_rule (app_on_file (codes "serve")) port_rule) sessions_rule).top

-- A command has this shape, and no option that its own commands would have as well.
abbrev pub IsCommandOf : Shape → Command → Type 0
IsCommandOf shape command = (shape_of command ≡ shape) × ((out-Command command).has_globals ≡ false)

-- The program without its commands.
abbrev pub hpb_alone : App
hpb_alone = on_top (λ s. record s { has_version = true; disable_help_subcommand = true }) (new_app (codes "hpb"))

-- The program as `clap` sees it: it has a version and the commands `format`, `check`, `run` and `serve`, each with its
-- options.
abbrev pub hpb : App
hpb = with_subcommand (with_subcommand (with_subcommand (with_subcommand hpb_alone format_shape) check_shape) run_shape) serve_shape

-- Help or the version is asked for.
abbrev pub IsShown : ErrorKind → Type 0
IsShown kind = (kind ≡ DisplayHelp) ⊎ (kind ≡ DisplayVersion)

-- Words that ask for help or the version end well, and wrong words don't.
abbrev pub EndsBy : ErrorKind → ℕ → Type 0
EndsBy kind status = (IsShown kind × (status ≡ WELL)) ⊎ ((IsShown kind → ⊥) × (status ≡ WRONG_WORDS))

-- The text of an option among the rows of a command.
abbrev pub text_in : List Row → List ℕ → List ℕ
text_in rows name = unwrap_or (first_of name rows) []

-- An option's value is digits alone, if it has one.
abbrev pub IsGivenByDigits : List Row → List ℕ → Type 0
IsGivenByDigits rows name = IfSome (first_of name rows) (λ text. all_ascii_digits text ≡ true)

-- The values of options are well given if a file's name has at least one character and each number is digits alone,
-- without a sign.
abbrev pub AreWellGivenIn : List Row → Type 0
AreWellGivenIn rows =
    (text_in rows (codes "file") ≢ []) × IsGivenByDigits rows (codes "journal") × IsGivenByDigits rows (codes "layout") × IsGivenByDigits rows (codes "batch")
    × IsGivenByDigits rows (codes "every") × IsGivenByDigits rows (codes "port") × IsGivenByDigits rows (codes "sessions")

-- So are the values of a command, if there is one.
abbrev pub AreWellGiven : Option (List ℕ × List Row) → Type 0
AreWellGiven None = Unit {0}
AreWellGiven (Some found) = AreWellGivenIn found.1

-- Digits spell a number of this many bits.
abbrev pub IsNumber : (bits : ℕ) → List ℕ → Type 0
IsNumber bits digits = IsNumeral 10 digits × (digits_value 10 digits < 2 ^ bits)

-- The number of this many bits that a text spells, or another if it spells none.
abbrev pub IsNumberOr : (bits other : ℕ) → Option (List ℕ) → ℕ → Type 0
IsNumberOr bits other None number = number ≡ other
IsNumberOr bits other (Some text) number =
    let digits = without_leading_plus text in
    (IsNumber bits digits → number ≡ digits_value 10 digits) × ((IsNumber bits digits → ⊥) → number ≡ other)

-- The number of 32 bits that a text spells, or 0.
abbrev pub IsNumberOf : Option (List ℕ) → ℕ → Type 0
IsNumberOf text number = IsNumberOr 32 0 text number

-- The layout whose number a text spells; 1 counts if it spells no number.
abbrev pub IsLayoutOf : Option (List ℕ) → JournalLayout → Type 0
IsLayoutOf text layout = (number : ℕ) × IsNumberOr 8 1 text number × ((named : JournalLayout) → number ≡ layout_byte named → layout ≡ named)

-- The most commands of a batch: the number that a text spells, or 1 if it spells none, but at least 1 and at most 64.
abbrev pub IsBatchOf : Option (List ℕ) → ℕ → Type 0
IsBatchOf text batch = (number : ℕ) × IsNumberOr 32 1 text number × (batch ≡ max 1 (min number MOST_LETTERS))

-- The port that a text spells, or the least one if it spells none or a lesser one.
abbrev pub IsPortOf : Option (List ℕ) → ℕ → Type 0
IsPortOf text port = (number : ℕ) × IsNumberOr 16 LEAST_PORT text number × (port ≡ max number LEAST_PORT)

-- The number of sessions that a text spells, or 1 if it spells none, but at least 1 and at most 32.
abbrev pub AreSessionsOf : Option (List ℕ) → ℕ → Type 0
AreSessionsOf text sessions = (number : ℕ) × IsNumberOr 8 1 text number × (sessions ≡ max 1 (min number MOST_SESSIONS))

-- A job is the one that a command and its options say.
abbrev pub IsJobOf : Option (List ℕ × List Row) → Job → Type 0
IsJobOf None job = job ≡ Script
IsJobOf (Some found) Script = ⊥
IsJobOf (Some found) (Format file journal) =
    (found.0 ≡ codes "format") × (file.now ≡ text_in found.1 (codes "file"))
    × IsNumberOf (one_of (codes "journal") found.1) journal.frames × IsLayoutOf (one_of (codes "layout") found.1) journal.layout
IsJobOf (Some found) (Check file) = (found.0 ≡ codes "check") × (file.now ≡ text_in found.1 (codes "file"))
IsJobOf (Some found) (Run file batch every) =
    (found.0 ≡ codes "run") × (file.now ≡ text_in found.1 (codes "file"))
    × IsBatchOf (one_of (codes "batch") found.1) batch × IsNumberOf (one_of (codes "every") found.1) every
IsJobOf (Some found) (Serve file port sessions) =
    (found.0 ≡ codes "serve") × (file.now ≡ text_in found.1 (codes "file"))
    × IsPortOf (one_of (codes "port") found.1) port × AreSessionsOf (one_of (codes "sessions") found.1) sessions

-- The numbers of a job that are not judged later are within their range.
abbrev pub HasRanges : Job → Type 0
HasRanges (Run file batch every) = (1 ≤ batch) × (batch ≤ MOST_LETTERS)
HasRanges (Serve file port sessions) = (LEAST_PORT ≤ port) × (port ≤ MOST_PORT) × (1 ≤ sessions) × (sessions ≤ MOST_SESSIONS)
HasRanges job = Unit {0}

-- A job is one on a file: each but a script.
abbrev pub HasFile : Job → Type 0
HasFile Script = ⊥
HasFile job = Unit {0}

-- The path of a job's file; a script has none.
abbrev pub file_of : Job → Option (List ℕ)
file_of Script = None
file_of (Format file journal) = Some file.now
file_of (Check file) = Some file.now
file_of (Run file batch every) = Some file.now
file_of (Serve file port sessions) = Some file.now

-- The journal that a job asks for, which only the making of a file does.
abbrev pub journal_of : Job → Option JournalShape
journal_of (Format file journal) = Some journal
journal_of job = None

-- The name is that of a command.
abbrev pub IsKnownName : List ℕ → Type 0
IsKnownName name = (name ≡ codes "format") ⊎ (name ≡ codes "check") ⊎ (name ≡ codes "run") ⊎ (name ≡ codes "serve")

-- The command is one of the program's, or there is none.
abbrev pub HasKnownCommand : Option (List ℕ × List Row) → Type 0
HasKnownCommand None = Unit {0}
HasKnownCommand (Some found) = IsKnownName found.0

-- These words ask for no job, and end with such a status. The reason is a kind of error, help or the version, or a
-- value that isn't given well.
abbrev pub EndsWords : List (List ℕ) → ℕ → Type 0
EndsWords words status =
    ((kind : ErrorKind) × IsAmong kind (fault_of hpb words) × EndsBy kind status)
    ⊎ ((fault_of hpb words ≡ []) × (AreWellGiven (subcommand_of hpb words) → ⊥) × (status ≡ WRONG_WORDS))

-- These words ask for a job if they have no error and their values are given well. Otherwise they end with a status.
abbrev pub AsksFor : List (List ℕ) → Result Job WordsFault → Type 0
AsksFor words (Ok job) = (fault_of hpb words ≡ []) × AreWellGiven (subcommand_of hpb words) × IsJobOf (subcommand_of hpb words) job
AsksFor words (Err Memory) = Unit {0}
AsksFor words (Err (Refused text status)) = EndsWords words status

-- Words are wrong, or they ask for help.
abbrev pub HasStatus : WordsFault → Type 0
HasStatus Memory = Unit {0}
HasStatus (Refused text status) = (status ≡ WELL) ⊎ (status ≡ WRONG_WORDS)

-- The fault for an error of this kind.
abbrev pub IsTold : ErrorKind → WordsFault → Type 0
IsTold kind Memory = Unit {0}
IsTold kind (Refused text status) = (kind ≢ OutOfMemory) × EndsBy kind status

-- Words are reported as wrong.
abbrev pub IsWrong : WordsFault → Type 0
IsWrong Memory = ⊥
IsWrong (Refused text status) = status ≡ WRONG_WORDS

-- A command with the texts of its file and its number.
abbrev pub options_in : Option (List ℕ × List Row) → Option (List ℕ × Option (List ℕ) × Option (List ℕ))
options_in = option_map (λ found. (found.0, first_of (codes "file") found.1, one_of (codes "journal") found.1))

-- A command with the texts of its file, its journal and its layout.
abbrev pub format_options_in : Option (List ℕ × List Row) → Option (List ℕ × Option (List ℕ) × Option (List ℕ) × Option (List ℕ))
format_options_in = option_map (λ found. (found.0, first_of (codes "file") found.1, one_of (codes "journal") found.1, one_of (codes "layout") found.1))

-- A command with the texts of its file and its two numbers.
abbrev pub run_options_in : Option (List ℕ × List Row) → Option (List ℕ × Option (List ℕ) × Option (List ℕ) × Option (List ℕ))
run_options_in = option_map (λ found. (found.0, first_of (codes "file") found.1, one_of (codes "batch") found.1, one_of (codes "every") found.1))

-- A command with the texts of its file, its port and its number of sessions.
abbrev pub serve_options_in : Option (List ℕ × List Row) → Option (List ℕ × Option (List ℕ) × Option (List ℕ) × Option (List ℕ))
serve_options_in = option_map (λ found. (found.0, first_of (codes "file") found.1, one_of (codes "port") found.1, one_of (codes "sessions") found.1))

-- Some words without a command, with the error of each. No words and an end of options ask for a script. Others ask for
-- help or the version, and words that the program doesn't know are wrong.
pub record AskedAlone (program : List ℕ) : Type 0 where
  pub name : fault_of hpb (program ∷ []) ≡ []
  pub script : subcommand_of hpb (program ∷ []) ≡ None
  pub end : fault_of hpb (program ∷ codes "--" ∷ []) ≡ []
  pub help : fault_of hpb (program ∷ codes "--help" ∷ []) ≡ DisplayHelp ∷ []
  pub version : fault_of hpb (program ∷ codes "--version" ∷ []) ≡ DisplayVersion ∷ []
  pub word : fault_of hpb (program ∷ codes "bogus" ∷ []) ≡ UnknownArgument ∷ InvalidSubcommand ∷ []
  pub empty : fault_of hpb (program ∷ [] ∷ []) ≡ UnknownArgument ∷ InvalidSubcommand ∷ []
  pub option : fault_of hpb (program ∷ codes "--bogus" ∷ []) ≡ UnknownArgument ∷ []
  pub letter : fault_of hpb (program ∷ codes "-b" ∷ []) ≡ UnknownArgument ∷ []
  pub first : fault_of hpb (program ∷ codes "bogus" ∷ codes "--help" ∷ []) ≡ UnknownArgument ∷ InvalidSubcommand ∷ []

-- Some options of `format`, with the error or the values of each.
pub record AskedToFormat (program : List ℕ) : Type 0 where
  pub format : fault_of hpb (program ∷ codes "format" ∷ codes "--file" ∷ codes "a.hpb" ∷ codes "--journal" ∷ codes "4" ∷ []) ≡ []
  pub formats : format_options_in (subcommand_of hpb (program ∷ codes "format" ∷ codes "--file" ∷ codes "a.hpb" ∷ codes "--journal" ∷ codes "4" ∷ []))
      ≡ Some (codes "format", Some (codes "a.hpb"), Some (codes "4"), Some (codes "1"))
  pub formats_cells : format_options_in (subcommand_of hpb (program ∷ codes "format" ∷ codes "--file=a.hpb" ∷ codes "--journal=16" ∷ codes "--layout=2" ∷ []))
      ≡ Some (codes "format", Some (codes "a.hpb"), Some (codes "16"), Some (codes "2"))
  pub below_layout : fault_of hpb (program ∷ codes "format" ∷ codes "--file=a.hpb" ∷ codes "--journal=16" ∷ codes "--layout=0" ∷ []) ≡ ValueValidation ∷ []
  pub above_layout : fault_of hpb (program ∷ codes "format" ∷ codes "--file=a.hpb" ∷ codes "--journal=16" ∷ codes "--layout=3" ∷ []) ≡ ValueValidation ∷ []
  pub signed_layout : AreWellGiven (subcommand_of hpb (program ∷ codes "format" ∷ codes "--file=a.hpb" ∷ codes "--journal=16" ∷ codes "--layout=+1" ∷ [])) → ⊥
  pub format_help : fault_of hpb (program ∷ codes "format" ∷ codes "--help" ∷ []) ≡ DisplayHelp ∷ []
  pub no_file : fault_of hpb (program ∷ codes "format" ∷ codes "--journal=4" ∷ []) ≡ MissingRequiredArgument ∷ []
  pub no_journal : fault_of hpb (program ∷ codes "format" ∷ codes "--file=a.hpb" ∷ []) ≡ MissingRequiredArgument ∷ []
  pub no_number : fault_of hpb (program ∷ codes "format" ∷ codes "--journal=four" ∷ []) ≡ ValueValidation ∷ []

-- Some options of `check`, with the error or the values of each.
pub record AskedToCheck (program : List ℕ) : Type 0 where
  pub check : fault_of hpb (program ∷ codes "check" ∷ codes "--file=a.hpb" ∷ []) ≡ []
  pub checks : options_in (subcommand_of hpb (program ∷ codes "check" ∷ codes "--file=a.hpb" ∷ [])) ≡ Some (codes "check", Some (codes "a.hpb"), None)
  pub check_help : fault_of hpb (program ∷ codes "check" ∷ codes "--help" ∷ []) ≡ DisplayHelp ∷ []
  pub check_file : fault_of hpb (program ∷ codes "check" ∷ []) ≡ MissingRequiredArgument ∷ []
  pub no_name : AreWellGiven (subcommand_of hpb (program ∷ codes "check" ∷ codes "--file=" ∷ [])) → ⊥

-- Some options of `run`, with the error or the values of each.
pub record AskedToRun (program : List ℕ) : Type 0 where
  pub run : fault_of hpb (program ∷ codes "run" ∷ codes "--file" ∷ codes "a.hpb" ∷ codes "--batch" ∷ codes "16" ∷ codes "--every" ∷ codes "50" ∷ []) ≡ []
  pub runs : run_options_in (subcommand_of hpb (program ∷ codes "run" ∷ codes "--file" ∷ codes "a.hpb" ∷ codes "--batch" ∷ codes "16" ∷ codes "--every" ∷ codes "50" ∷ []))
      ≡ Some (codes "run", Some (codes "a.hpb"), Some (codes "16"), Some (codes "50"))
  pub run_alone : fault_of hpb (program ∷ codes "run" ∷ codes "--file=a.hpb" ∷ []) ≡ []
  pub runs_alone : run_options_in (subcommand_of hpb (program ∷ codes "run" ∷ codes "--file=a.hpb" ∷ [])) ≡ Some (codes "run", Some (codes "a.hpb"), Some (codes "1"), Some (codes "0"))
  pub run_help : fault_of hpb (program ∷ codes "run" ∷ codes "--help" ∷ []) ≡ DisplayHelp ∷ []
  pub run_file : fault_of hpb (program ∷ codes "run" ∷ []) ≡ MissingRequiredArgument ∷ []
  pub least_batch : fault_of hpb (program ∷ codes "run" ∷ codes "--file=a.hpb" ∷ codes "--batch=1" ∷ []) ≡ []
  pub most_batch : fault_of hpb (program ∷ codes "run" ∷ codes "--file=a.hpb" ∷ codes "--batch=64" ∷ []) ≡ []
  pub below_batch : fault_of hpb (program ∷ codes "run" ∷ codes "--file=a.hpb" ∷ codes "--batch=0" ∷ []) ≡ ValueValidation ∷ []
  pub above_batch : fault_of hpb (program ∷ codes "run" ∷ codes "--file=a.hpb" ∷ codes "--batch=65" ∷ []) ≡ ValueValidation ∷ []
  pub signed_every : AreWellGiven (subcommand_of hpb (program ∷ codes "run" ∷ codes "--file=a.hpb" ∷ codes "--every=-0" ∷ [])) → ⊥

-- Some options of `serve`, with the error or the values of each.
pub record AskedToServe (program : List ℕ) : Type 0 where
  pub signed_port : AreWellGiven (subcommand_of hpb (program ∷ codes "serve" ∷ codes "--file=a.hpb" ∷ codes "--port=+5000" ∷ codes "--sessions=2" ∷ [])) → ⊥
  pub serve : fault_of hpb (program ∷ codes "serve" ∷ codes "--file" ∷ codes "a.hpb" ∷ codes "--port" ∷ codes "5000" ∷ codes "--sessions" ∷ codes "2" ∷ []) ≡ []
  pub serves : serve_options_in (subcommand_of hpb (program ∷ codes "serve" ∷ codes "--file" ∷ codes "a.hpb" ∷ codes "--port" ∷ codes "5000" ∷ codes "--sessions" ∷ codes "2" ∷ []))
      ≡ Some (codes "serve", Some (codes "a.hpb"), Some (codes "5000"), Some (codes "2"))
  pub serve_help : fault_of hpb (program ∷ codes "serve" ∷ codes "--help" ∷ []) ≡ DisplayHelp ∷ []
  pub serve_file : fault_of hpb (program ∷ codes "serve" ∷ codes "--port=5000" ∷ codes "--sessions=2" ∷ []) ≡ MissingRequiredArgument ∷ []
  pub serve_port : fault_of hpb (program ∷ codes "serve" ∷ codes "--file=a.hpb" ∷ codes "--sessions=2" ∷ []) ≡ MissingRequiredArgument ∷ []
  pub serve_sessions : fault_of hpb (program ∷ codes "serve" ∷ codes "--file=a.hpb" ∷ codes "--port=5000" ∷ []) ≡ MissingRequiredArgument ∷ []
  pub least_port : fault_of hpb (program ∷ codes "serve" ∷ codes "--file=a.hpb" ∷ codes "--port=1024" ∷ codes "--sessions=2" ∷ []) ≡ []
  pub most_port : fault_of hpb (program ∷ codes "serve" ∷ codes "--file=a.hpb" ∷ codes "--port=65535" ∷ codes "--sessions=2" ∷ []) ≡ []
  pub below_port : fault_of hpb (program ∷ codes "serve" ∷ codes "--file=a.hpb" ∷ codes "--port=1023" ∷ codes "--sessions=2" ∷ []) ≡ ValueValidation ∷ []
  pub above_port : fault_of hpb (program ∷ codes "serve" ∷ codes "--file=a.hpb" ∷ codes "--port=65536" ∷ codes "--sessions=2" ∷ []) ≡ ValueValidation ∷ []
  pub least_sessions : fault_of hpb (program ∷ codes "serve" ∷ codes "--file=a.hpb" ∷ codes "--port=5000" ∷ codes "--sessions=1" ∷ []) ≡ []
  pub most_sessions : fault_of hpb (program ∷ codes "serve" ∷ codes "--file=a.hpb" ∷ codes "--port=5000" ∷ codes "--sessions=32" ∷ []) ≡ []
  pub below_sessions : fault_of hpb (program ∷ codes "serve" ∷ codes "--file=a.hpb" ∷ codes "--port=5000" ∷ codes "--sessions=0" ∷ []) ≡ ValueValidation ∷ []
  pub above_sessions : fault_of hpb (program ∷ codes "serve" ∷ codes "--file=a.hpb" ∷ codes "--port=5000" ∷ codes "--sessions=33" ∷ []) ≡ ValueValidation ∷ []

-- All of these cases, whatever the program's name is. If there is no word at all, not even the name, nothing is wrong.
pub record WordsAskFor : Type 0 where
  pub none : fault_of hpb [] ≡ []
  pub alone : (program : List ℕ) → AskedAlone program
  pub format : (program : List ℕ) → AskedToFormat program
  pub check : (program : List ℕ) → AskedToCheck program
  pub run : (program : List ℕ) → AskedToRun program
  pub serve : (program : List ℕ) → AskedToServe program
