use Rattle.std.proofs.Common.{◌∙◌, List, sym, subst}
use mathlib.Core.List.{IsPrefix}
use Rattle.hpb_rules.specs.declared.letter.Letter.{Letter}
use Rattle.hpb_house.proofs.Leaving.{gives_back}
use Rattle.hpb_house.proofs.closing.leave.Goals as goal

pub whole_trail-whole-requires : goal.whole_trail-whole-requires
whole_trail-whole-requires g c = λ i d lt. c.requires i d lt ∙ sym c.front.ensures.0

pub returns-clause-back : goal.returns-clause-back
returns-clause-back g c =
    let front = c.front.ensures in
    let trail = c.trail-published.ensures in
    let whole = c.whole_trail-whole.ensures in
    let finish = c.finish-disk.ensures in
    let book = sym front.0 ∙ sym whole.book in
    gives_back g.D.Disk.device c.judged_is_shown.ensures c.args.keeper c.facts.ensures
    finish.disk finish.committed c.has_failed-has_failed.ensures finish.in_flight trail.1 (trail.0 ∙ book)
    (subst (λ (l : List (List Letter)). IsPrefix l c.whole_trail-whole.result.log) front.1 whole.this) (λ i d lt. c.requires i d lt ∙ book) whole.each
