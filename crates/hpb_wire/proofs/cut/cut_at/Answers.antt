use Rattle.std.proofs.Common.{◌∷◌, ◌+◌, take, drop, sym, ap, ◌∙◌, arith}
use Rattle.std.proofs.lemmas.List.{take-take}
use Rattle.hpb_rules.specs.Lines.{line_words}
use Rattle.hpb_wire.specs.Words.{bytes_of}
use Rattle.hpb_wire.proofs.Cutting.{words_found}
use Rattle.hpb_wire.proofs.cut.cut_at.Goals as goal

pub returns-clause-words : goal.returns-clause-words
returns-clause-words c =
    let line = c.args.words.line in
    let place = c.args.place in
    words_found (bytes_of line) place c.requires.found
    ∙ ap (λ word. word ∷ line_words (drop (place + 1) (bytes_of line))) (take-take place line.size line.bytes.now (omega arith))
    ∙ ap (λ rest. take place line.bytes.now ∷ line_words rest) (sym c.behind.ensures.line)
