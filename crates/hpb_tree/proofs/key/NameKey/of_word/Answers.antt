use Rattle.std.specs.Prelude.{take}
use Rattle.std.proofs.Common.{◌≡◌, ◌-◌, arith}
use Rattle.hpb_tree.specs.Keys.{number}
use Rattle.hpb_tree.proofs.Keys.{key_front, number_eight, number_front, byte_bits}
use Rattle.hpb_tree.proofs.key.NameKey.of_word.Goals as goal

pub returns : goal.returns
returns c =
    let word : c.from_be_bytes-word.result ≡ number (take 8 c.args.bytes.now) = omega (arith, c.from_be_bytes-word.ensures, number_eight c.args.bytes.now c.requires.word) in
    rw
    (byte_bits (8 - c.args.len), word, number_front c.args.bytes.now c.args.len (8 - c.args.len) 8 (λ i. omega (arith, c.type_inv.bytes i)) (omega arith) c.requires.word)
    (key_front c.args.bytes.now c.args.len (omega arith) (omega arith))
