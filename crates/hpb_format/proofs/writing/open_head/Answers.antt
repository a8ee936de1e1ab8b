use Rattle.std.proofs.Common.{[], ◌∷◌, sym, subst, arith}
use Rattle.std.proofs.lemmas.Result.{on_ok_weaker}
use Rattle.hpb_disk.proofs.Runs.{leaves_join}
use Rattle.hpb_disk.specs.Asked.Asked.{syncs}
use Rattle.hpb_format.specs.Stages.{IsOpenAndMade}
use Rattle.hpb_format.proofs.Calls.{call_made, calls_break, calls_join, sync_made}
use Rattle.hpb_format.proofs.Made.{head_opens, head_opened}
use Rattle.hpb_format.proofs.Runs.{quiet_keeps}
use Rattle.hpb_format.proofs.writing.open_head.Goals as goal

pub returns-in_err-open_gate-clause-any_moment : goal.returns-in_err-open_gate-clause-any_moment
returns-in_err-open_gate-clause-any_moment g c head state was =
    head_opens (g.F.Frames.layout c.args.frames.now) c.laws.ensures c.elsewhere_stays.ensures c.open_or_closed.ensures head state c.requires.settled was c.in_err-open_gate.ensures.crash

pub returns-clause-made : goal.returns-clause-made
returns-clause-made g c head state was =
    let d = g.D.Disk in let layout = g.F.Frames.layout c.args.frames.now in let gate = c.in_ok-open_gate.ensures in
    let opened = head_opened layout c.laws.ensures c.elsewhere_stays.ensures c.put_is_torn.ensures head state (d.device c.args.disk.now).seen (d.device c.open_gate.new.disk).seen was (omega (arith, c.requires.room)) gate.written gate.open in
    on_ok_weaker c.sync.result (λ durable image left. subst (IsOpenAndMade layout head state) (sym (durable image left)) opened) c.sync.ensures.durable

pub returns-clause-any_moment : goal.returns-clause-any_moment
returns-clause-any_moment g c head state was =
    let first = head_opens (g.F.Frames.layout c.args.frames.now) c.laws.ensures c.elsewhere_stays.ensures c.open_or_closed.ensures head state c.requires.settled was c.in_ok-open_gate.ensures.crash in
    leaves_join first (quiet_keeps c.sync.ensures.crash first.after)

pub returns-in_err-open_gate-clause-calls : goal.returns-in_err-open_gate-clause-calls
returns-in_err-open_gate-clause-calls g c =
    let gate = c.in_err-open_gate.ensures in calls_break _ c.from_residual.result (syncs ∷ []) c.from_residual.ensures.1 (call_made gate.size gate.call)

pub returns-clause-calls : goal.returns-clause-calls
returns-clause-calls g c =
    let gate = c.in_ok-open_gate.ensures in calls_join c.sync.result (call_made gate.size gate.call) (sync_made c.sync.ensures.seen c.sync.ensures.call)
