-- The hint that a terminal gets.
use Rattle.std.specs.Prelude.{ℕ, Bool, true, false, List, []}
use Rattle.hpb_words.specs.declared.hints.TheConstants.{SCRIPT_HINT, FORMAT_HINT, RUN_HINT}
use Rattle.hpb_words.specs.declared.words.Job.{Job}
use Rattle.hpb_words.specs.declared.words.Job.TheVariants.{Script, Format, Check, Run, Serve}

-- The hint for a job, if standard input is a terminal.
abbrev pub hint_text : (is_terminal : Bool) → Job → List ℕ
hint_text false job = []
hint_text true Script = SCRIPT_HINT.now
hint_text true (Format file journal) = FORMAT_HINT.now
hint_text true (Check file) = []
hint_text true (Run file batch every) = RUN_HINT.now
hint_text true (Serve file port sessions) = []
