use Rattle.std.proofs.Common.{cond, length, Some, None, sym, ap, ◌∙◌, arith}
use Rattle.std.specs.List.{position_or_len}
use Rattle.std.proofs.lemmas.Bool.{lt-ltb}
use Rattle.std.proofs.lemmas.List.{length-take-le}
use Rattle.hpb_rules.specs.Lines.{is_space}
use Rattle.hpb_wire.specs.Words.{bytes_of}
use Rattle.hpb_wire.proofs.Places.{lowest_bit}
use Rattle.hpb_wire.proofs.cut.first_mapped.Goals as goal

pub returns-clause-found : goal.returns-clause-found
returns-clause-found c =
    let words = c.args.words in
    let line = bytes_of words.line in
    let long = length-take-le words.line.size words.line.bytes.now words.line.within in
    let place = position_or_len is_space line in
    let first = lowest_bit words.is_mapped words.spaces line (λ m. omega (arith, long, c.requires.mapped.short m)) c.requires.mapped.spaces c.requires.any in
    ap (λ b. cond b (Some place) None) (lt-ltb place (length line) first.1) ∙ ap Some (sym first.0)

pub returns-clause-short : goal.returns-clause-short
returns-clause-short c =
    let words = c.args.words in
    let long = length-take-le words.line.size words.line.bytes.now words.line.within in
    let first = lowest_bit words.is_mapped words.spaces (bytes_of words.line) (λ m. omega (arith, long, c.requires.mapped.short m)) c.requires.mapped.spaces c.requires.any in
    omega (arith, first.0, first.1, first.2)

pub returns-clause-within : goal.returns-clause-within
returns-clause-within c =
    let words = c.args.words in
    let long = length-take-le words.line.size words.line.bytes.now words.line.within in
    let first = lowest_bit words.is_mapped words.spaces (bytes_of words.line) (λ m. omega (arith, long, c.requires.mapped.short m)) c.requires.mapped.spaces c.requires.any in
    omega (arith, first.0, first.1, long)
