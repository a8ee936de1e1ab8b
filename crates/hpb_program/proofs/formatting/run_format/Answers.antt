use Rattle.std.proofs.Common.{◌∙◌, ℕ, List, Err, Ok, ap, rules, subst}
use Rattle.std.proofs.KnownBytes.{Keeps-refl}
use Rattle.hpb_define.specs.Text.{Answers}
use Rattle.hpb_server.specs.Streams.{streams}
use Rattle.hpb_program.specs.ConsoleValue.{ConsoleValue}
use Rattle.hpb_program.specs.Jobs.{formatted_line, Formats}
use Rattle.hpb_program.proofs.Ends.{failed_file, out_of_range, refused_definition, told_short, told_whole}
use Rattle.hpb_program.proofs.formatting.run_format.Goals as goal

pub returns-in-Err-read_definition-clause-formats : goal.returns-in-Err-read_definition-clause-formats
returns-in-Err-read_definition-clause-formats g c =
    let fault = c.in-Err-read_definition.fault in
    let answers = subst (λ (t : List ℕ). Answers t (Err fault.cause)) c.as_slice.ensures.value c.in-Err-read_definition.ensures in
    let out = g.W.Write.contents c.console.inside.output.stream in
    subst (λ (console : ConsoleValue). Formats c.args.journal console.streams (streams (g.R.Read.remaining c.read_text.new.input.stream) out) (Err c.from.result)) c.console.view_is
    (refused_definition c.args.journal (streams (g.R.Read.remaining c.console.inside.input.stream) out) (streams (g.R.Read.remaining c.read_text.new.input.stream) out) c.in-Ok.text.items c.in-Ok.ensures.ok (Keeps-refl out) fault c.from.result c.from.ensures answers)

pub returns-then-not-is_journal-clause-formats : goal.returns-then-not-is_journal-clause-formats
returns-then-not-is_journal-clause-formats g c =
    let definition = c.in-Ok-read_definition.definition in
    let answers = subst (λ (t : List ℕ). Answers t (Ok definition)) c.as_slice.ensures.value c.in-Ok-read_definition.ensures in
    rw (← c.console.view_is) (out_of_range c.args.journal (streams _ _) (streams _ _) c.in-Ok.text.items c.in-Ok.ensures.ok (Keeps-refl _) definition answers (search rules))

pub returns-in-Err-line_of_pages-clause-formats : goal.returns-in-Err-line_of_pages-clause-formats
returns-in-Err-line_of_pages-clause-formats g c = rw (← c.console.view_is) ((c.in-Ok.text.items, c.in-Ok.ensures.ok.read, c.in-Ok.ensures.ok.within), Keeps-refl _)

pub returns-in-Err-format_file-clause-formats : goal.returns-in-Err-format_file-clause-formats
returns-in-Err-format_file-clause-formats g c =
    let definition = c.in-Ok-read_definition.definition in
    let answers = subst (λ (t : List ℕ). Answers t (Ok definition)) c.as_slice.ensures.value c.in-Ok-read_definition.ensures in
    let out = g.W.Write.contents c.console.inside.output.stream in
    subst (λ (console : ConsoleValue). Formats c.args.journal console.streams (streams (g.R.Read.remaining c.read_text.new.input.stream) out) (Err c.in-Err-format_file.fault)) c.console.view_is
    (failed_file c.args.journal (streams (g.R.Read.remaining c.console.inside.input.stream) out) (streams (g.R.Read.remaining c.read_text.new.input.stream) out) c.in-Ok.text.items c.in-Ok.ensures.ok (Keeps-refl out) definition c.in-Err-format_file.fault answers (search rules) c.in-Err-format_file.ensures.fault)

pub returns-in-Ok-send-clause-formats : goal.returns-in-Ok-send-clause-formats
returns-in-Ok-send-clause-formats g c =
    let definition = c.in-Ok-read_definition.definition in
    let answers = subst (λ (t : List ℕ). Answers t (Ok definition)) c.as_slice.ensures.value c.in-Ok-read_definition.ensures in
    rw (← c.console.view_is) (told_whole c.args.journal (streams _ _) (streams _ _) c.in-Ok.text.items c.as_bytes.result.now definition c.in-Ok.ensures.ok answers (search rules)
    c.in-Ok-format_file.disk c.in-Ok-format_file.ensures.new (c.as_bytes.ensures.value ∙ c.in-Ok-line_of_pages.ensures ∙ ap formatted_line c.pages_of.ensures) c.in-Ok-send.ensures.bytes)

pub returns-clause-formats : goal.returns-clause-formats
returns-clause-formats g c =
    let definition = c.in-Ok-read_definition.definition in
    let answers = subst (λ (t : List ℕ). Answers t (Ok definition)) c.as_slice.ensures.value c.in-Ok-read_definition.ensures in
    rw (← c.console.view_is) (told_short c.args.journal (streams _ _) (streams _ _) c.in-Ok.text.items c.as_bytes.result.now definition c.in-Ok.ensures.ok answers (search rules)
    c.in-Ok-format_file.disk c.in-Ok-format_file.ensures.new (c.as_bytes.ensures.value ∙ c.in-Ok-line_of_pages.ensures ∙ ap formatted_line c.pages_of.ensures) c.in-Err-send.field-0 c.in-Err-send.ensures.bytes)
