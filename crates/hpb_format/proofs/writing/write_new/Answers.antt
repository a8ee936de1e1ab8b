use Rattle.std.proofs.Common.{[], ◌∷◌, ◌++◌}
use Rattle.hpb_disk.proofs.Runs.{leaves_join}
use Rattle.hpb_disk.specs.Asked.Asked.{syncs, writes}
use Rattle.hpb_disk.specs.Gates.{open_byte}
use Rattle.hpb_format.specs.Asking.{writing}
use Rattle.hpb_format.specs.declared.place.TheConstants.{HEAD_GATE}
use Rattle.hpb_format.proofs.Calls.{calls_break, calls_join}
use Rattle.hpb_format.proofs.Unheaded.{behind_closing, unheaded_closing, unheaded_opening}
use Rattle.hpb_format.proofs.writing.write_new.Goals as goal

pub returns-in_err-close_all-clause-any_moment : goal.returns-in_err-close_all-clause-any_moment
returns-in_err-close_all-clause-any_moment g c =
    unheaded_closing (g.F.Frames.layout c.args.frames.now) c.args.new.now.head.items c.args.new.now.state.items c.open_or_closed.ensures c.in_err-close_all.ensures.any_moment c.requires.settled c.requires.unheaded

pub returns-in_err-write_behind-clause-any_moment : goal.returns-in_err-write_behind-clause-any_moment
returns-in_err-write_behind-clause-any_moment g c =
    let close = c.in_ok-close_all.ensures in
    behind_closing (g.F.Frames.layout c.args.frames.now) c.args.new.now.head.items c.args.new.now.state.items c.open_or_closed.ensures close.any_moment c.requires.settled c.requires.unheaded
    c.in_err-write_behind.ensures.calls.1 close.settled close.closed.head

pub returns-clause-any_moment : goal.returns-clause-any_moment
returns-clause-any_moment g c =
    let layout = g.F.Frames.layout c.args.frames.now in let head = c.args.new.now.head.items in let state = c.args.new.now.state.items in
    let close = c.in_ok-close_all.ensures in let write = c.in_ok-write_behind.ensures in
    leaves_join (behind_closing layout head state c.open_or_closed.ensures close.any_moment c.requires.settled c.requires.unheaded write.calls.1 close.settled close.closed.head)
    (unheaded_opening layout head state (c.open_head.ensures.any_moment head state write.made))

pub returns-clause-made : goal.returns-clause-made
returns-clause-made g c = c.open_head.ensures.made c.args.new.now.head.items c.args.new.now.state.items c.in_ok-write_behind.ensures.made

pub returns-in_err-close_all-clause-calls : goal.returns-in_err-close_all-clause-calls
returns-in_err-close_all-clause-calls g c =
    let close = c.in_err-close_all.ensures.calls in let later = (syncs ∷ writes HEAD_GATE open_byte ∷ []) ++ writing c.args.new.now.head.items c.args.new.now.state.items in
    (close.0, close.1, calls_break _ c.from_residual.result later c.from_residual.ensures.1 close.2)

pub returns-in_err-write_behind-clause-calls : goal.returns-in_err-write_behind-clause-calls
returns-in_err-write_behind-clause-calls g c =
    let close = c.in_ok-close_all.ensures.calls in let both = calls_join _ close.2 c.in_err-write_behind.ensures.calls.0 in
    (close.0, close.1, calls_break _ c.from_residual-in_err-write_behind.result (syncs ∷ writes HEAD_GATE open_byte ∷ []) c.from_residual-in_err-write_behind.ensures.1 both)

pub returns-clause-calls : goal.returns-clause-calls
returns-clause-calls g c =
    let close = c.in_ok-close_all.ensures.calls in
    (close.0, close.1, calls_join c.open_head.result (calls_join _ close.2 c.in_ok-write_behind.ensures.calls.0) c.open_head.ensures.calls)
