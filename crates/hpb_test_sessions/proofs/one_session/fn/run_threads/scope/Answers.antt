use Rattle.std.proofs.Common.{subst}
use Rattle.hpb_house.specs.declared.keeper.Halt.{Halt}
use Rattle.hpb_rings.specs.declared.client.Client.{Client}
use Rattle.hpb_serve.specs.Ends.{IsEndOf}
use Rattle.hpb_test_sessions.proofs.Only.{of_end}
use Rattle.hpb_test_sessions.proofs.one_session.fn.run_threads.scope.Goals as goal

-- the session ended with its client
pub returns : goal.returns
returns g c =
    let end = c.run_session-session.result.end in
    let own = subst (λ (client : Client Halt). IsEndOf client end) c.new.ensures.client c.run_session-session.ensures.own in
    λ report is. of_end c.captures.client end report own is
