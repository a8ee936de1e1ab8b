use Rattle.std.proofs.Common.{false, ◌≡◌, ◌∙◌, ◌∷◌, [], ◌++◌, ap, sym, List}
use Rattle.hpb_rules.specs.declared.letter.Answer.{Answer}
use Rattle.hpb_board.specs.Publication.{answers_of}
use Rattle.hpb_rings.specs.Taking.{slips, newly}
use Rattle.hpb_rules.specs.Judging.{letters_of}
use Rattle.hpb_rings.specs.declared.slip.Slip.TheVariants.{End}
use Rattle.hpb_rings.proofs.Later.{taken-later, longer-later}
use Rattle.hpb_rings.proofs.report.Report.view_again.Goals as goal

pub invariant_of-self-clause-there : goal.invariant_of-self-clause-there
invariant_of-self-clause-there c =
    let self = c.args.self.now in
    longer-later self.taken (answers_of self.seat self.viewer) (answers_of self.seat c.view_again.new.viewer) (c.view_again.ensures.answers self.seat) self.there

pub invariant_of-self-clause-in_order : goal.invariant_of-self-clause-in_order
invariant_of-self-clause-in_order c =
    let self = c.args.self.now in
    let kept = taken-later self.taken (answers_of self.seat self.viewer) (answers_of self.seat c.view_again.new.viewer) (c.view_again.ensures.answers self.seat) self.there in
    self.in_order ∙ ap (λ (answers : List Answer). slips (letters_of answers)) (sym kept)

pub invariant_of-self-clause-whole : goal.invariant_of-self-clause-whole
invariant_of-self-clause-whole c =
    let self = c.args.self.now in
    let kept = taken-later self.taken (answers_of self.seat self.viewer) (answers_of self.seat c.view_again.new.viewer) (c.view_again.ensures.answers self.seat) self.there in
    λ (h : self.is_halted ≡ false). self.whole h ∙ ap (λ (answers : List Answer). slips (letters_of answers) ++ End ∷ []) (sym kept)

pub invariant_of-self-clause-counted : goal.invariant_of-self-clause-counted
invariant_of-self-clause-counted c =
    let self = c.args.self.now in
    let kept = taken-later self.taken (answers_of self.seat self.viewer) (answers_of self.seat c.view_again.new.viewer) (c.view_again.ensures.answers self.seat) self.there in
    self.counted ∙ ap newly (sym kept)
