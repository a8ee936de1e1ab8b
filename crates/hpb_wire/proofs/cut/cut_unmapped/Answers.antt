use Rattle.std.proofs.Common.{◌∷◌, ◌+◌, take, drop, sym, ap, ◌∙◌, arith}
use Rattle.std.proofs.lemmas.List.{take-take}
use Rattle.std.specs.List.{position}
use Rattle.hpb_rules.specs.Lines.{line_words, is_space}
use Rattle.hpb_wire.specs.Words.{bytes_of}
use Rattle.hpb_wire.proofs.Cutting.{words_found, words_none}
use Rattle.hpb_wire.proofs.cut.cut_unmapped.Goals as goal

pub returns-in-Some-clause-words : goal.returns-in-Some-clause-words
returns-in-Some-clause-words c =
    let line = c.args.line in
    let place = c.in-Some.place in
    words_found (bytes_of line) place (sym (ap (position is_space) c.text.ensures) ∙ (sym c.space.ensures ∙ c.in-Some.is))
    ∙ ap (λ word. word ∷ line_words (drop (place + 1) (bytes_of line))) (take-take place line.size line.bytes.now (omega (arith, c.from_place.ensures.size)))
    ∙ ap (λ rest. take place line.bytes.now ∷ line_words rest) (sym c.from_place.ensures.line)

pub returns-in-None-clause-words : goal.returns-in-None-clause-words
returns-in-None-clause-words c = words_none (bytes_of c.args.line) (sym (ap (position is_space) c.text.ensures) ∙ (sym c.space.ensures ∙ c.in-None.is))
