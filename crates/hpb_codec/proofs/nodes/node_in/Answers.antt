use Rattle.std.proofs.Common.{◌∙◌, arith}
use Rattle.hpb_codec.proofs.Entries.{node_read, same_node}
use Rattle.hpb_codec.proofs.nodes.node_in.Goals as goal

pub returns-in_default : goal.returns-in_default
returns-in_default c node has e =
    let read = node_read c.args.entry.now c.front_bytes.result.0.now c.front_bytes.result.1.now c.front_u8-parent.result.1.now c.front_u8-kind.result.1.now c.front_bytes-2.result.0.now c.front_bytes-2.result.1.now c.front_u32-units.result.1.now c.front_u64-opening.result.1.now
    c.front_u8-parent.result.0 c.front_u8-kind.result.0 c.front_u32-units.result.0 c.front_u64-opening.result.0
    c.front_bytes.ensures.whole c.front_bytes.ensures.size c.front_u8-parent.ensures.whole c.front_u8-kind.ensures.whole c.front_bytes-2.ensures.whole c.front_bytes-2.ensures.size c.front_u32-units.ensures.whole c.front_u64-opening.ensures.whole
    (omega arith) (omega arith) (omega arith) (omega arith) node has e in
    c.in_default.ensures node.name has.name read.name_is

pub returns : goal.returns
returns c node has e =
    let read = node_read c.args.entry.now c.front_bytes.result.0.now c.front_bytes.result.1.now c.front_u8-parent.result.1.now c.front_u8-kind.result.1.now c.front_bytes-2.result.0.now c.front_bytes-2.result.1.now c.front_u32-units.result.1.now c.front_u64-opening.result.1.now
    c.front_u8-parent.result.0 c.front_u8-kind.result.0 c.front_u32-units.result.0 c.front_u64-opening.result.0
    c.front_bytes.ensures.whole c.front_bytes.ensures.size c.front_u8-parent.ensures.whole c.front_u8-kind.ensures.whole c.front_bytes-2.ensures.whole c.front_bytes-2.ensures.size c.front_u32-units.ensures.whole c.front_u64-opening.ensures.whole
    (omega arith) (omega arith) (omega arith) (omega arith) node has e in
    same_node (c.in_ok-from_str.ensures.ok ∙ c.in-Some.ensures node.name has.name read.name_is) (c.parent_in.ensures node.parent read.parent_is has.parent) (read.terms_are c.terms_in.result c.terms_in.ensures.licence c.terms_in.ensures.none)
