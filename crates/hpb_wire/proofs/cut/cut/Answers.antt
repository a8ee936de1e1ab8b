use Rattle.std.proofs.Common.{cond, sym, ap, ◌∙◌}
use Rattle.hpb_rules.specs.Lines.{space}
use Rattle.hpb_wire.specs.ByteMaps.{map_of}
use Rattle.hpb_wire.specs.Words.{bytes_of}
use Rattle.hpb_wire.proofs.Places.{words_unmapped}
use Rattle.hpb_wire.proofs.cut.cut.Goals as goal

pub returns-then-words-clause-words : goal.returns-then-words-clause-words
returns-then-words-clause-words c =
    let line = bytes_of c.args.words.line in
    let byte_map = c.requires.spaces ∙ ap (λ b. cond b (map_of space line) 0) c.if-words.true in
    words_unmapped line (sym byte_map ∙ c.if-words-eq0.true)
