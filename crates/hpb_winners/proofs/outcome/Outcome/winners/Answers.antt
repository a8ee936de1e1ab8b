use Rattle.std.proofs.Common.{◌≡◌, ◌+◌, ◌&&◌, ◌||◌, not, refl, ap, sym, ◌∙◌, arith, subst}
use Rattle.hpb_rules.specs.Choices.{is_in}
use Rattle.hpb_winners.specs.View.{is_ahead, is_free}
use Rattle.hpb_winners.proofs.Masks.{IsMaskOf, bit_next, wins_at, is_covered, mask_start, mask_more, mask_same, flags_start, flags_more, under_is, covered_is, win_is, mask_all}
use Rattle.hpb_winners.proofs.outcome.Outcome.winners.Goals.{then-under, else-under, then-ahead+then-not-under, else-ahead, else-ahead-via-then-ahead+else-not-under, else-ahead-via-else-ahead}
use Rattle.hpb_winners.proofs.outcome.Outcome.winners.Goals as goal

pub loop-place-init : goal.loop-place-init
loop-place-init c =
    let now = c.args.self.now in
    record { bit = refl; winners = mask_start (wins_at now.parents now.inside now.values); covered = flags_start (is_covered now.parents now.inside now.values) refl }

pub loop-place-preserved : goal.loop-place-preserved
loop-place-preserved c =
    let now = c.args.self.now in
    let i = c.loop-place.place in
    let w = wins_at now.parents now.inside now.values in
    let k = is_covered now.parents now.inside now.values in
    let under : c.is_under-under.result ≡ not (is_free now.parents (is_ahead now.inside now.values) i)
    = c.is_under-under.ensures ∙ under_is now.parents now.inside now.values c.facts.ensures.before i c.loop-place.covered c.loop-place.invariant.covered in
    let ahead : c.is_ahead-ahead.result ≡ is_ahead now.inside now.values i = c.is_ahead-ahead.ensures.value ∙ ap (is_ahead now.inside now.values) c.new.ensures in
    let wins = win_is now.parents now.inside now.values i under ahead in
    let covered : c.if-under.covered ≡ k i
    = (elim c.if-under.branch [
      | then-under b ↦ b.covered-is ∙ b.if-under.true ∙ sym (ap (λ t. t || c.is_ahead-ahead.result) b.if-under.true)
      | else-under b ↦ b.covered-is ∙ sym (ap (λ t. t || c.is_ahead-ahead.result) b.if-under.false)
    ]) ∙ sym (covered_is now.parents now.inside now.values i under ahead) in
    let won : IsMaskOf w (i + 1) c.if-ahead.winners
    = (elim c.if-ahead.branch [
      | then-ahead+then-not-under b ↦
          subst (IsMaskOf w (i + 1)) (sym b.winners-is) (mask_more w i c.loop-place.winners c.loop-place.invariant.winners (omega arith) c.loop-place.bit c.loop-place.invariant.bit (wins ∙ ap (λ t. t && not c.is_under-under.result) b.if-ahead.true ∙ ap not b.if-not-under.true))
      | else-ahead b ↦
          subst (IsMaskOf w (i + 1)) (sym b.winners-is) (mask_same w i c.loop-place.winners c.loop-place.invariant.winners (omega arith) (wins ∙ (elim b.else-ahead.branch [
            | else-ahead-via-then-ahead+else-not-under d ↦ ap (λ t. t && not c.is_under-under.result) d.if-ahead.true ∙ ap not d.if-not-under.false
            | else-ahead-via-else-ahead d ↦ ap (λ t. t && not c.is_under-under.result) d.if-ahead.false
          ])))
    ]) in
    record { bit = bit_next i c.loop-place.bit (omega arith) c.loop-place.invariant.bit; winners = won; covered = flags_more k i c.loop-place.covered c.loop-place.invariant.covered (omega arith) c.if-under.covered covered }

pub returns : goal.returns
returns c n =
    let now = c.args.self.now in
    mask_all now.parents now.inside now.values c.loop-place.place c.loop-place.winners (omega arith) c.loop-place.invariant.winners (omega arith) n
    ∙ ap (λ ws. is_in ws n) (sym c.facts.ensures.wins)
