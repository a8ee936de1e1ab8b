use Rattle.std.specs.Prelude.{get_or}
use Rattle.hpb_rules.specs.declared.reply.Reply.TheVariants as replies
use Rattle.hpb_rules.specs.Rendering.{reply_text}
use Rattle.hpb_server.proofs.Passing.{reply_passed, reply_broken}
use Rattle.hpb_server.proofs.serving.pass_replies.Goals as goal

pub returns-in_err-pass_added : goal.returns-in_err-pass_added
returns-in_err-pass_added g c =
    let inv = c.loop-reply.invariant in
    let items = c.as_slice-reply-items.result.now in
    let reply = get_or items c.loop-reply.reply-index (replies.Ok 0) in
    reply_broken items c.args.replies.now c.as_slice-reply-items.ensures.value c.loop-reply.reply-index (replies.Ok 0) c.loop-reply-test.true (g.W.Write.contents c.args.writer.now) (g.W.Write.contents c.loop-reply.writer) (g.W.Write.contents c.pass_added.new.writer)
    c.args.output.now c.loop-reply.output inv.0 inv.1 inv.2 c.pass_added.new.output c.in_err-pass_added.field-0.0 c.from_residual.result c.from_residual.ensures.1 (c.in_err-pass_added.ensures c.loop-reply.output (reply_text reply) c.reply-added.ensures)

pub loop-reply-preserved : goal.loop-reply-preserved
loop-reply-preserved g c =
    let inv = c.loop-reply.invariant in
    let items = c.as_slice-reply-items.result.now in
    let reply = get_or items c.loop-reply.reply-index (replies.Ok 0) in
    reply_passed items c.args.replies.now c.as_slice-reply-items.ensures.value c.loop-reply.reply-index (replies.Ok 0) c.loop-reply-test.true (g.W.Write.contents c.args.writer.now) (g.W.Write.contents c.loop-reply.writer) (g.W.Write.contents c.pass_added.new.writer)
    c.args.output.now c.loop-reply.output inv.0 inv.1 inv.2 c.pass_added.new.output (c.in_ok-pass_added.ensures c.loop-reply.output (reply_text reply) c.reply-added.ensures)
