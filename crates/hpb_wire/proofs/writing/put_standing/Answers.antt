use Rattle.std.proofs.Common.{take}
use Rattle.std.specs.Prelude.{codes, decimal}
use Rattle.hpb_rules.specs.Rendering.{wins_text}
use Rattle.hpb_wire.proofs.Parts.{node_parts}
use Rattle.hpb_wire.proofs.writing.put_standing.Goals as goal

pub returns-clause-written : goal.returns-clause-written
returns-clause-written g c =
    let line = c.args.line.now in
    rw (c.put_prices.ensures.written, c.put_piece-to_price.ensures.written, c.put_name-bidder.ensures.written, c.put_piece-to_bidder.ensures.written, c.put_number-amount.ensures.written, c.put_piece-to_amount.ensures.written, c.put_name-name.ensures.written, c.put_piece-to_name.ensures.written)
    (node_parts (take c.args.at c.args.bytes.now) (codes "NODE ") line.name.now (codes " HIGH ") (decimal c.args.bid.now.amount) (codes " ") c.args.bid.now.bidder.now (codes " PRICE ") (decimal line.price) (codes " MIN ") (decimal line.minimum) (codes " WIN ") (wins_text line.wins) (codes "\n"))
