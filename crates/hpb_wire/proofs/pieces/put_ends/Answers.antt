use Rattle.std.proofs.Common.{◌-◌, length, arith}
use Rattle.hpb_wire.proofs.Overlaps.{ends_written}
use Rattle.hpb_wire.proofs.pieces.put_ends.Goals as goal

pub returns-clause-written : goal.returns-clause-written
returns-clause-written g c =
    let text = c.args.text.now in
    ends_written c.args.at g.row.N (length text - g.row.N) c.put_part.result c.put_part-2.result c.args.bytes.now c.put_part.new.bytes c.put_part-2.new.bytes text
    (omega arith) (omega arith) (omega arith) (omega arith) (omega arith) c.put_part.ensures.written c.put_part-2.ensures.written
