use Rattle.std.proofs.Common.{◌∙◌, refl, sym, ap}
use Rattle.hpb_serve.proofs.Posts.{same_sent}
use Rattle.hpb_serve.proofs.asking.post_letter.Goals as goal

pub returns-then-halted-clause-halted : goal.returns-then-halted-clause-halted
returns-then-halted-clause-halted g c halted =
    let before = c.args.client.now in
    let after = c.halted.new.self in
    let same = c.halted.ensures.same in
    let kept = c.loop.invariant in
    let waiting = ap (λ waiting. waiting.items) same.3 ∙ kept.6 in (
      refl,
      sym c.halted.ensures.kept ∙ c.if-halted.true,
      waiting,
      same_sent before.seat after.seat before.viewer after.viewer before.taken after.taken before.waiting.items after.waiting.items _ _
          (same.0 ∙ kept.2) (same.2 ∙ kept.3) (same.4 ∙ kept.5) waiting before.sent_is after.sent_is,
    )
