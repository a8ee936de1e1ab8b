use Rattle.std.proofs.Common.{◌≡◌, ◌∙◌, length, refl, ap}
use Rattle.hpb_serve.proofs.Posts.{moved}
use Rattle.hpb_house.proofs.Histories.{rules_shown}
use Rattle.hpb_serve.proofs.Steps.{looked, looked_away, ring_kept}
use Rattle.hpb_serve.proofs.desk.HouseDeskDesk.look.Goals as goal

pub returns-then-refresh : goal.returns-then-refresh
returns-then-refresh g c =
    let old = c.args.self.now in
    let new = c.refresh.new.self in
    let viewer = c.refresh.ensures.viewer in
    let rules : c.auction.result.now.rules ≡ old.client.viewer.opened.rules = ap (λ value. value.rules) c.auction.ensures ∙ rules_shown new.viewer ∙ ap (λ value. value.rules) viewer.1 in (
      (
        refl,
        λ x. tt,
        (
          λ state stands. looked old.client new old.stop state stands c.refresh.ensures.same.0 (ring_kept old.client.letters new.letters c.refresh.ensures.same.1)
              (viewer.0, viewer.1, viewer.2, c.refresh.ensures.later) c.auction.result.now c.auction.ensures c.refresh.ensures.mark,
          ap (λ value. value.rules) viewer.1,
        ),
      ),
      record { shown = (ap (λ r. length r.nodes) rules, ap (λ r. length r.bidders) rules); after = tt },
    )

pub returns-else-refresh : goal.returns-else-refresh
returns-else-refresh g c =
    let old = c.args.self.now in
    let new = c.refresh.new.self in
    let viewer = c.refresh.ensures.viewer in (
      (
        refl,
        λ x. tt,
        (
          λ state stands. looked_away old.client new old.stop state stands c.refresh.ensures.same.0 (ring_kept old.client.letters new.letters c.refresh.ensures.same.1)
              (viewer.0, viewer.1, viewer.2, c.refresh.ensures.later) c.refresh.ensures.mark,
          ap (λ value. value.rules) viewer.1,
        ),
      ),
      record { shown = tt; after = tt },
    )

pub invariant_of-self-clause-order : goal.invariant_of-self-clause-order
invariant_of-self-clause-order g c ordered =
    let old = c.args.self.now in
    let new = c.refresh.new.self in
    let same = c.refresh.ensures.same in
    let viewer = c.refresh.ensures.viewer in
    moved old.client.seat new.seat old.client.taken new.taken old.client.viewer new.viewer old.client.waiting.items new.waiting.items same.0 same.4 (ap (λ waiting. waiting.items) same.3)
    (viewer.0, viewer.1, viewer.2, c.refresh.ensures.later) (old.order ordered)
