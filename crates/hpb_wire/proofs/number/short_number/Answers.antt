use Rattle.std.proofs.Common.{◌≡◌, length, map, take, sym, ◌∙◌, arith}
use Rattle.std.proofs.lemmas.List.{take-take, length-take-le}
use Rattle.core.specs.Dec2flt.Digits.{less_zero}
use Rattle.hpb_wire.specs.Words.{bytes_of}
use Rattle.hpb_wire.proofs.Canonical.{canonical}
use Rattle.hpb_wire.proofs.Digits.{read_whole}
use Rattle.hpb_wire.proofs.Eight.{eight_lanes, with_zeros, digits_first, plain_front}
use Rattle.hpb_wire.proofs.number.short_number.Goals as goal

pub returns-clause-value : goal.returns-clause-value
returns-clause-value c = λ most small.
    let word = c.args.word in
    let bytes = take 8 word.bytes.now in
    let number = c.value_of_eight.result in
    let lanes = c.lanes-lanes.ensures in
    let eight = eight_lanes bytes lanes.bytes in
    let digits = c.keep_first-digits.ensures (map less_zero bytes) eight lanes.value in
    let none = sym (c.has_others.ensures _ (with_zeros (map less_zero bytes) word.size eight c.if-word-gt-LANES.false) digits) ∙ c.if-has_others.false in
    let first = digits_first bytes word.size lanes.bytes c.if-word-gt-LANES.false none in
    let same : take word.size bytes ≡ bytes_of word = take-take word.size 8 word.bytes.now c.if-word-gt-LANES.false in
    let long : length (bytes_of word) ≡ word.size = length-take-le word.size word.bytes.now word.within in
    let value = c.value_of_eight.ensures.value _ first.1 digits ∙ first.2 in
    let read = read_whole (bytes_of word) number (omega arith) (omega arith) (rw same at first.0) (rw same at value) in
    let plain = rw same at (plain_front bytes word.size c.lanes-lanes.result lanes.bytes.1 lanes.value c.if-word-gt1.either) in
    canonical most number (bytes_of word) read small plain
