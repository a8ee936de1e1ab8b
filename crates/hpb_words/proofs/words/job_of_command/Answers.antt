use Rattle.std.proofs.Common.{◌≡◌, ◌∙◌, Option, ap, rules, refl, codes}
use Rattle.std.specs.Prelude.{unwrap_or}
use Rattle.std.specs.Str.Parse.{ParsesUnsigned, ExplainsUnsignedError, HasUnsignedDigitsIfOk}
use Rattle.clap.specs.Matches.{found_of}
use Rattle.hpb_codec.specs.Layouts.{layout_byte}
use Rattle.hpb_codec.specs.declared.layout.JournalLayout.{JournalLayout}
use Rattle.hpb_codec.specs.declared.layout.JournalLayout.TheVariants.{Pages}
use Rattle.hpb_words.specs.declared.words.TheConstants.{LEAST_PORT}
use Rattle.hpb_words.proofs.Options.{text_read, number_read}
use Rattle.hpb_words.proofs.words.job_of_command.Goals as goal

pub returns-then-eq-clause-job : goal.returns-then-eq-clause-job
returns-then-eq-clause-job c =
    let found = found_of c.args.options.now in
    let text = text_read found (codes "file") c.get_str.result _ c.unwrap_or-file.result refl c.unwrap_or-file.ensures c.get_str.ensures in
    let number = number_read 32 (λ bs r. ParsesUnsigned 32 10 bs r × ExplainsUnsignedError 10 bs r × HasUnsignedDigitsIfOk bs r) found (codes "journal") c.get_one.result 0 c.unwrap_or-frames.result (λ t r g. g.0)
    c.get_one.ensures.none c.get_one.ensures.value c.unwrap_or-frames.ensures in
    let layout = number_read 8 (λ bs r. ParsesUnsigned 8 10 bs r × ExplainsUnsignedError 10 bs r × HasUnsignedDigitsIfOk bs r) found (codes "layout") c.get_one-then-eq.result 1 c.unwrap_or-byte.result (λ t r g. g.0)
    c.get_one-then-eq.ensures.none c.get_one-then-eq.ensures.value c.unwrap_or-byte.ensures in
    let is : (named : JournalLayout) → c.unwrap_or-byte.result ≡ layout_byte named → c.unwrap_or-layout.result ≡ named =
    λ named byte. c.unwrap_or-layout.ensures ∙ ap (λ (o : Option JournalLayout). unwrap_or o Pages) (c.of_byte.ensures.only named byte) in
    (search rules, text, number, (c.unwrap_or-byte.result, layout, is))

pub returns-then-eq-2-clause-job : goal.returns-then-eq-2-clause-job
returns-then-eq-2-clause-job c =
    let found = found_of c.args.options.now in
    let text = text_read found (codes "file") c.get_str.result _ c.unwrap_or-file.result refl c.unwrap_or-file.ensures c.get_str.ensures in
    let batch = number_read 32 (λ bs r. ParsesUnsigned 32 10 bs r × ExplainsUnsignedError 10 bs r × HasUnsignedDigitsIfOk bs r) found (codes "batch") c.get_one-then-eq-2.result 1 c.unwrap_or-wanted.result (λ t r g. g.0)
    c.get_one-then-eq-2.ensures.none c.get_one-then-eq-2.ensures.value c.unwrap_or-wanted.ensures in
    let every = number_read 32 (λ bs r. ParsesUnsigned 32 10 bs r × ExplainsUnsignedError 10 bs r × HasUnsignedDigitsIfOk bs r) found (codes "every") c.get_one-then-eq-2-2.result 0 c.unwrap_or-every.result (λ t r g. g.0)
    c.get_one-then-eq-2-2.ensures.none c.get_one-then-eq-2-2.ensures.value c.unwrap_or-every.ensures in
    (search rules, text, (c.unwrap_or-wanted.result, batch, c.clamp-batch.ensures), every)

pub returns-then-eq-3-clause-job : goal.returns-then-eq-3-clause-job
returns-then-eq-3-clause-job c =
    let found = found_of c.args.options.now in
    let text = text_read found (codes "file") c.get_str.result _ c.unwrap_or-file.result refl c.unwrap_or-file.ensures c.get_str.ensures in
    let port = number_read 16 (λ bs r. ParsesUnsigned 16 10 bs r × ExplainsUnsignedError 10 bs r × HasUnsignedDigitsIfOk bs r) found (codes "port") c.get_one-then-eq-3.result LEAST_PORT c.unwrap_or-asked.result (λ t r g. g.0)
    c.get_one-then-eq-3.ensures.none c.get_one-then-eq-3.ensures.value c.unwrap_or-asked.ensures in
    let sessions = number_read 8 (λ bs r. ParsesUnsigned 8 10 bs r × ExplainsUnsignedError 10 bs r × HasUnsignedDigitsIfOk bs r) found (codes "sessions") c.get_one-then-eq-3-2.result 1 c.unwrap_or-wanted-then-eq-3.result (λ t r g. g.0)
    c.get_one-then-eq-3-2.ensures.none c.get_one-then-eq-3-2.ensures.value c.unwrap_or-wanted-then-eq-3.ensures in
    (search rules, text, (c.unwrap_or-asked.result, port, c.max-port.ensures), (c.unwrap_or-wanted-then-eq-3.result, sessions, c.clamp-sessions.ensures))

pub returns-else-eq-3-clause-job : goal.returns-else-eq-3-clause-job
returns-else-eq-3-clause-job c =
    let text = text_read (found_of c.args.options.now) (codes "file") c.get_str.result _ c.unwrap_or-file.result refl c.unwrap_or-file.ensures c.get_str.ensures in
    (search rules, text)
