use Rattle.std.proofs.Common.{◌+◌, ◌/◌, ◌^◌, cond, sym, ap, ◌∙◌, arith}
use Rattle.hpb_rules.specs.Lines.{space}
use Rattle.hpb_wire.specs.ByteMaps.{map_of}
use Rattle.hpb_wire.specs.Words.{bytes_of}
use Rattle.hpb_wire.proofs.Places.{spaces_behind}
use Rattle.hpb_wire.proofs.cut.behind.Goals as goal

pub returns-clause-mapped : goal.returns-clause-mapped
returns-clause-mapped c =
    let words = c.args.words in
    let next = c.args.place + 1 in
    record {
      short = λ mapped. omega (arith, c.from_place.ensures.size, c.requires.mapped.short mapped);
      spaces =
          ap (λ spaces. spaces / 2 ^ next) c.requires.mapped.spaces
          ∙ spaces_behind words.is_mapped next (bytes_of words.line)
          ∙ ap (λ l. cond words.is_mapped (map_of space l) 0) (sym c.from_place.ensures.line);
    }
