use Rattle.std.proofs.Common.{◌∙◌, sym}
use Rattle.std.proofs.lemmas.Result.{err_from_is_err_and}
use Rattle.hpb_run.proofs.Standings.{counted_anew}
use Rattle.hpb_run.proofs.desk.DeviceDesk.ask_together.Goals as goal

pub returns-clause-asked : goal.returns-clause-asked
returns-clause-asked g c state at =
    let rests = c.make_due_checkpoint.ensures.kept state at in
    let asked = c.in_ok-replies.ensures.asked state rests.0 in
    (asked.0, asked.1, (asked.2, rests.1 ∙ sym asked.3))

pub returns-clause-alike : goal.returns-clause-alike
returns-clause-alike g c state at = c.in_ok-replies.ensures.alike state (c.make_due_checkpoint.ensures.kept state at).0

pub returns-in_err-replies-clause-kept : goal.returns-in_err-replies-clause-kept
returns-in_err-replies-clause-kept g c state at =
    let rests = c.make_due_checkpoint.ensures.kept state at in
    let told = err_from_is_err_and c.from_residual.result c.from_residual.ensures.1 in
    rw told.1 (c.in_err-replies.ensures.kept state rests.0, rests.1)

pub returns-clause-counted : goal.returns-clause-counted
returns-clause-counted g c not_due =
    let same = c.make_due_checkpoint.ensures.none not_due in
    rw (c.count-before.ensures.value, c.committed.ensures, c.count-after.ensures.value, c.committed-2.ensures, same.0, same.1) at c.count_commit-self.ensures

pub returns-clause-anew : goal.returns-clause-anew
returns-clause-anew g c due =
    let zero = c.make_due_checkpoint.ensures.due due in counted_anew _ _ _ _ zero c.count_commit-self.ensures
