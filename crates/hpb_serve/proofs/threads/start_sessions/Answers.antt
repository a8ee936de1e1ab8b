use Rattle.std.proofs.Common.{[], rules, ◌≡◌, ◌∙◌, sym, ap, subst}
use Rattle.std.proofs.lemmas.Bool.{false≢true}
use Rattle.hpb_house.specs.declared.keeper.Halt.{Halt}
use Rattle.hpb_rings.specs.declared.client.Client.{Client}
use Rattle.hpb_serve.specs.Ended.{EndsWith}
use Rattle.hpb_house.proofs.Threads.{next_made, no_more}
use Rattle.hpb_serve.proofs.Turns.{rest_of}
use Rattle.hpb_serve.proofs.threads.start_sessions.Goals as goal

pub loop-client-preserved-then-not-is_whole : goal.loop-client-preserved-then-not-is_whole
loop-client-preserved-then-not-is_whole g c =
    (rest_of (λ client'. client'.waiting.items ≡ []) c.loop-client.client-iterator c.next.new.self c.in-Some.client c.loop-client.invariant.0 c.in-Some.ensures.steps, λ is. absurd (false≢true (sym c.if-not-is_whole.true ∙ is)))

pub spawn_with-requires-clause-keeps : goal.spawn_with-requires-clause-keeps
spawn_with-requires-clause-keeps g c κs within r post =
    let ended : EndsWith c.new-idle.result.client r = search rules in
    subst (λ (client : Client Halt). EndsWith client r) (c.new-idle.ensures ∙ sym c.of.ensures) ended

pub loop-client-preserved-then-is_err : goal.loop-client-preserved-then-is_err
loop-client-preserved-then-is_err g c = (rest_of (λ client'. client'.waiting.items ≡ []) c.loop-client.client-iterator c.next.new.self c.in-Some.client c.loop-client.invariant.0 c.in-Some.ensures.steps, λ is. absurd (false≢true is))

pub loop-client-preserved-else-is_err : goal.loop-client-preserved-else-is_err
loop-client-preserved-else-is_err g c =
    let client = c.in-Some.client in
    let thread = c.in-Ok.thread in
    let its : thread.promise.client.value ≡ client = ap (λ p. p.client.value) c.in-Ok.ensures.ok ∙ c.of.ensures in (
      rest_of (λ client'. client'.waiting.items ≡ []) c.loop-client.client-iterator c.next.new.self c.in-Some.client c.loop-client.invariant.0 c.in-Some.ensures.steps,
      λ is.
          rw (c.push.ensures.items, c.if-is_err.ensures.negation) (next_made (λ thread'. thread'.promise.client.value) _ c.loop-client.threads.items thread c.loop-client.client-iterator c.next.new.self client (c.loop-client.invariant.1 is) c.in-Some.ensures.steps its),
    )

pub loop-client-preserved-in-Err : goal.loop-client-preserved-in-Err
loop-client-preserved-in-Err g c = (rest_of (λ client'. client'.waiting.items ≡ []) c.loop-client.client-iterator c.next.new.self c.in-Some.client c.loop-client.invariant.0 c.in-Some.ensures.steps, λ is. absurd (false≢true is))

pub loop-client-preserved : goal.loop-client-preserved
loop-client-preserved g c = (rest_of (λ client'. client'.waiting.items ≡ []) c.loop-client.client-iterator c.next.new.self c.in-Some.client c.loop-client.invariant.0 c.in-Some.ensures.steps, λ is. absurd (false≢true is))

pub returns-then-is_whole-clause-clients : goal.returns-then-is_whole-clause-clients
returns-then-is_whole-clause-clients g c =
    no_more (λ thread. thread.promise.client.value) _ c.loop-client.threads.items _ (c.loop-client.invariant.1 c.if-is_whole.true) (sym c.loop-client.client-iterator.rest.ok.0 ∙ c.in-None.ensures.steps.0)
