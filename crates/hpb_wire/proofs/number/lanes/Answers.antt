use Rattle.std.proofs.Common.{take, ◌∙◌}
use Rattle.core.proofs.dec2flt.Eight.{eight_at, word_at, lanes_are}
use Rattle.hpb_wire.proofs.number.lanes.Goals as goal

pub returns-clause-bytes : goal.returns-clause-bytes
returns-clause-bytes c = eight_at c.args.bytes.now 0 (λ k. (c.type_inv.bytes k).fits) c.requires

pub returns-clause-value : goal.returns-clause-value
returns-clause-value c =
    let bytes = c.args.bytes.now in
    lanes_are (take 8 bytes) c.from_le_bytes-word.result (eight_at bytes 0 (λ k. (c.type_inv.bytes k).fits) c.requires) (c.from_le_bytes-word.ensures ∙ word_at bytes 0 c.requires)
