use Rattle.std.proofs.Common.{ap, ◌∙◌}
use Rattle.hpb_codec.specs.Cells.{further_cells}
use Rattle.hpb_codec.proofs.Spreading.{all_written}
use Rattle.hpb_codec.proofs.cells.spread.Goals as goal

pub returns-clause-written : goal.returns-clause-written
returns-clause-written c =
    all_written c.args.out.now c.put_bytes-at.new.out c.put_zeros-at.new.out c.put_further.new.out c.front_bytes.result.0.now c.front_bytes.result.1.now c.args.body.now _ _ _ c.cells_behind-cells.result c.args.batch.now
    c.put_bytes-at.ensures.written c.put_zeros-at.ensures.written c.put_further.ensures.written c.front_bytes.ensures.front c.front_bytes.ensures.rest c.requires.body
    (c.cells_behind-cells.ensures.value ∙ ap further_cells c.len.ensures.value)
