-- The limits of the words, as the numbers and texts in the documents.
use Rattle.std.specs.Prelude.{◌≡◌, [], ◌∷◌, codes}
use Rattle.hpb_words.specs.declared.hints.TheConstants.{SCRIPT_HINT, FORMAT_HINT, RUN_HINT}
use Rattle.hpb_words.specs.declared.status.TheConstants.{WELL, ILL, WRONG_WORDS}
use Rattle.hpb_words.specs.declared.words.TheConstants.{FORMAT, CHECK, RUN, SERVE, MOST_BATCH, LEAST_PORT, MOST_PORT, MOST_SESSIONS}

-- Each limit of the words is the one in the documents.
pub record LimitsAre : Type 0 where
  -- The statuses of the process.
  pub statuses : WELL ∷ ILL ∷ WRONG_WORDS ∷ [] ≡ 0 ∷ 1 ∷ 2 ∷ []
  -- The commands.
  pub format : FORMAT.now ≡ codes "format"
  pub check : CHECK.now ≡ codes "check"
  pub run : RUN.now ≡ codes "run"
  pub serve : SERVE.now ≡ codes "serve"
  -- The numbers that options give.
  pub batch : MOST_BATCH ≡ 64
  pub least_port : LEAST_PORT ≡ 1024
  pub port : MOST_PORT ≡ 65535
  pub sessions : MOST_SESSIONS ≡ 32
  -- The hints for terminals.
  pub script_hint : SCRIPT_HINT.now ≡ codes "hpb: standard input is a terminal: type the definition in JSON, in one line, then commands and questions, one a line; Ctrl-D ends the script\nhpb: a terminal cuts a line at 4,095 bytes: put a longer one into a file F, and give it by < F\n"
  pub format_hint : FORMAT_HINT.now ≡ codes "hpb: standard input is a terminal: type the definition in JSON, in as many lines as you like; Ctrl-D ends it\nhpb: a terminal cuts a line at 4,095 bytes: put a longer one into a file F, and give it by < F\n"
  pub run_hint : RUN_HINT.now ≡ codes "hpb: standard input is a terminal: type commands and questions, one a line; Ctrl-D ends the run\n"
