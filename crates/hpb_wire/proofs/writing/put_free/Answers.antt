use Rattle.std.proofs.Common.{append_assoc}
use Rattle.hpb_wire.proofs.writing.put_free.Goals as goal

pub returns-clause-written : goal.returns-clause-written
returns-clause-written c =
    rw (c.put_prices.ensures.written, c.put_piece-to_price.ensures.written, c.put_name-name.ensures.written, c.put_piece-to_name.ensures.written) (simp append_assoc)
