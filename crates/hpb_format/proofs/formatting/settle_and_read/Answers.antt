use Rattle.std.proofs.Common.{[], sym, ◌∙◌}
use Rattle.std.proofs.lemmas.Result.{IfOk-weaker}
use Rattle.hpb_disk.proofs.Runs.{leaves_join, leaves_within}
use Rattle.hpb_disk.specs.Device.{IsSettled}
use Rattle.hpb_format.proofs.Calls.{calls_break, calls_join, reads_made, sync_made}
use Rattle.hpb_format.proofs.formatting.settle_and_read.Goals as goal

pub returns-clause-settled : goal.returns-clause-settled
returns-clause-settled g c =
    let read = c.is_headed.ensures in let sync = c.in_ok-sync.ensures in
    let settled : IsSettled (g.D.Disk.device c.is_headed.new.disk) = λ image left. sync.durable image (read.unchanged.leaves.after image left) ∙ sym (read.unchanged.seen ∙ sync.seen) in
    IfOk-weaker c.is_headed.result _ _ (λ headed is. settled) read.headed

pub returns-clause-any_moment : goal.returns-clause-any_moment
returns-clause-any_moment g c = let sync = c.in_ok-sync.ensures.crash in leaves_join sync (leaves_within sync.after c.is_headed.ensures.unchanged.leaves)

pub returns-in_err-sync-clause-calls : goal.returns-in_err-sync-clause-calls
returns-in_err-sync-clause-calls g c =
    let sync = c.in_err-sync.ensures in calls_break _ c.from_residual.result [] c.from_residual.ensures.1 (sync_made sync.seen sync.call)

pub returns-clause-calls : goal.returns-clause-calls
returns-clause-calls g c =
    let read = c.is_headed.ensures in let sync = c.in_ok-sync.ensures in
    calls_join c.is_headed.result (sync_made sync.seen sync.call) (reads_made read.unchanged read.reads)
