use Rattle.std.proofs.Common.{◌≡◌, ◌∙◌, List, arith, subst, sym}
use Rattle.hpb_house.specs.Clients.{AreReportsOf, IsReportOf}
use Rattle.hpb_house.specs.declared.keeper.Halt.{Halt}
use Rattle.hpb_rings.specs.declared.client.Client.{Client}
use Rattle.hpb_test_house.proofs.Threads.{all_kept}
use Rattle.hpb_test_house.proofs.harness.fn.run_threads.scope.Goals as goal

-- each thread was started with its client, and keeps its promise
pub returns : goal.returns
returns g c =
    let threads = c.in_ok-threads.threads in
    let reports = c.in_ok-reports.reports in
    let joined = c.in_ok-reports.ensures in
    subst (λ (clients : List (Client Halt)). AreReportsOf clients reports.items) c.in_ok-threads.ensures
    (all_kept IsReportOf (λ thread. thread.promise.client.value) threads.items reports.items
    (λ i d lt. let kept = (joined.each i d (omega (arith, lt, threads.ok.0))).1 in (kept.handle, kept.handle_is, kept.kept)) (sym reports.ok.0 ∙ joined.len ∙ threads.ok.0))
