use Rattle.std.proofs.Common.{sym, ◌∙◌, subst, [], ◌∷◌, arith}
use Rattle.std.proofs.lemmas.Result.{on_ok_weaker}
use Rattle.hpb_disk.specs.Asked.Asked.{syncs}
use Rattle.hpb_format.specs.Stages.{AreClosed}
use Rattle.hpb_format.proofs.Calls.{calls_break, calls_join, closes_join, sync_made}
use Rattle.hpb_format.proofs.Closed.{all_closed, closes_on, quiet_closes}
use Rattle.hpb_format.proofs.Turns.{widen}
use Rattle.hpb_format.proofs.closing.close_all.Goals as goal

pub close_frames-requires : goal.close_frames-requires
close_frames-requires g c = record { room = omega (arith, c.requires.room, (c.in_ok-close_head_and_slots.ensures.closes (g.F.Frames.shape c.args.frames.now)).2.size) }

pub returns-in_err-close_frames-clause-any_moment : goal.returns-in_err-close_frames-clause-any_moment
returns-in_err-close_frames-clause-any_moment g c =
    closes_on (c.in_ok-close_head_and_slots.ensures.closes (g.F.Frames.shape c.args.frames.now)).3 c.in_err-close_frames.ensures.closes.3

pub returns-in_err-close_head_and_slots-clause-any_moment : goal.returns-in_err-close_head_and_slots-clause-any_moment
returns-in_err-close_head_and_slots-clause-any_moment g c = (c.in_err-close_head_and_slots.ensures.closes (g.F.Frames.shape c.args.frames.now)).3

pub returns-clause-closed : goal.returns-clause-closed
returns-clause-closed g c =
    let d = g.D.Disk in let layout = g.F.Frames.layout c.args.frames.now in
    let before = c.in_ok-close_head_and_slots.ensures in let frames = c.in_ok-close_frames.ensures in
    let closed = all_closed layout (d.device c.close_head_and_slots.new.disk).seen (d.device c.close_frames.new.disk).seen before.head before.slots frames.before frames.closed in
    on_ok_weaker c.sync.result (λ durable. subst (AreClosed layout) (sym c.sync.ensures.seen) closed) c.sync.ensures.durable

pub returns-clause-settled : goal.returns-clause-settled
returns-clause-settled g c = on_ok_weaker c.sync.result (λ durable image left. durable image left ∙ sym c.sync.ensures.seen) c.sync.ensures.durable

pub returns-clause-any_moment : goal.returns-clause-any_moment
returns-clause-any_moment g c =
    closes_on (closes_on (c.in_ok-close_head_and_slots.ensures.closes (g.F.Frames.shape c.args.frames.now)).3 c.in_ok-close_frames.ensures.closes.3) (quiet_closes c.sync.ensures.crash)

pub returns-in_err-close_head_and_slots-clause-calls : goal.returns-in_err-close_head_and_slots-clause-calls
returns-in_err-close_head_and_slots-clause-calls g c =
    let journal = g.F.Frames.shape c.args.frames.now in let one = c.in_err-close_head_and_slots.ensures.closes journal in
    (one.0, widen journal 3 _ one.0 (omega arith) one.1, calls_break _ c.from_residual.result (syncs ∷ []) c.from_residual.ensures.1 one.2)

pub returns-in_err-close_frames-clause-calls : goal.returns-in_err-close_frames-clause-calls
returns-in_err-close_frames-clause-calls g c =
    let journal = g.F.Frames.shape c.args.frames.now in
    let both = closes_join journal _ 3 _ _ (omega arith) (c.in_ok-close_head_and_slots.ensures.closes journal) c.in_err-close_frames.ensures.closes in
    (both.0, both.1, calls_break _ c.from_residual-in_err-close_frames.result (syncs ∷ []) c.from_residual-in_err-close_frames.ensures.1 both.2)

pub returns-clause-calls : goal.returns-clause-calls
returns-clause-calls g c =
    let journal = g.F.Frames.shape c.args.frames.now in
    let both = closes_join journal _ 3 _ _ (omega arith) (c.in_ok-close_head_and_slots.ensures.closes journal) c.in_ok-close_frames.ensures.closes in
    (both.0, both.1, calls_join c.sync.result both.2 (sync_made c.sync.ensures.seen c.sync.ensures.call))
