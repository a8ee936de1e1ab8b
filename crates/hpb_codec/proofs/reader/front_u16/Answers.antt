use Rattle.std.proofs.Common.{arith}
use Rattle.std.proofs.lemmas.Nat.{be_bytes_2}
use Rattle.hpb_codec.proofs.Numbers.{back_from, bytes_taken}
use Rattle.hpb_codec.proofs.reader.front_u16.Goals as goal

pub returns-clause-whole : goal.returns-clause-whole
returns-clause-whole c =
    let front = c.split_at.result.0.now in
    let cut = c.split_at.ensures in
    let fits = bytes_taken 2 c.args.bytes.now front cut.front (λ i. omega (arith, c.type_inv.bytes i)) in
    back_from 2 c.args.bytes.now front c.split_at.result.1.now c.from_be_bytes.result cut.front cut.back (be_bytes_2 front _ (omega arith) fits c.from_be_bytes.ensures)
