use Rattle.std.proofs.Common.{◌+◌, arith}
use Rattle.hpb_wire.specs.Responses.{text_of}
use Rattle.hpb_program.proofs.Ends.{added_line}
use Rattle.hpb_program.proofs.checking.lines_of.Goals as goal

pub nodes-preserved : goal.nodes-preserved
nodes-preserved c =
    added_line c.args.auction.now _ _ (text_of c.node.result) c.nodes.place c.new-in-nodes.result (c.nodes.place + 1) c.nodes.invariant c.in_ok-render-2.ensures c.node.ensures c.new-in-nodes.ensures (omega arith)
