use Rattle.std.proofs.Common.{rules, ◌≡◌, ◌∙◌, sym, ap, subst}
use Rattle.hpb_house.specs.Clients.{IsReportOf}
use Rattle.hpb_house.specs.declared.keeper.Halt.{Halt}
use Rattle.hpb_rings.specs.declared.client.Client.{Client}
use Rattle.hpb_house.proofs.Threads.{next_made, no_more}
use Rattle.hpb_test_house.proofs.harness.start_clients.Goals as goal

pub spawn_with-requires-clause-keeps : goal.spawn_with-requires-clause-keeps
spawn_with-requires-clause-keeps g c κs within r post =
    let its : IsReportOf c.in-Some.client r = search rules in
    subst (λ (client : Client Halt). IsReportOf client r) (sym c.of.ensures) its

pub loop-client-preserved : goal.loop-client-preserved
loop-client-preserved g c =
    let thread = c.in_ok-spawn_with.field-0 in
    let its : thread.promise.client.value ≡ c.in-Some.client = ap (λ p. p.client.value) c.in_ok-spawn_with.ensures.ok ∙ c.of.ensures in
    rw c.in_ok-push.ensures.items (next_made (λ thread'. thread'.promise.client.value) _ c.loop-client.threads.items thread c.loop-client.client-iterator c.next.new.self c.in-Some.client c.loop-client.invariant c.in-Some.ensures.steps its)

pub returns : goal.returns
returns g c =
    no_more (λ thread. thread.promise.client.value) _ c.loop-client.threads.items _ c.loop-client.invariant (sym c.loop-client.client-iterator.rest.ok.0 ∙ c.in-None.ensures.steps.0)
