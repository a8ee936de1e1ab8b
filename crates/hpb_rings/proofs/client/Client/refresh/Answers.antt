use Rattle.std.proofs.Common.{◌∙◌, ◌++◌, ap, sym, List}
use Rattle.hpb_rules.specs.declared.letter.Answer.{Answer}
use Rattle.hpb_board.specs.Publication.{answers_of}
use Rattle.hpb_rings.specs.Taking.{posted, slips, newly}
use Rattle.hpb_rules.specs.Judging.{letters_of}
use Rattle.hpb_rings.proofs.Later.{taken-later, longer-later}
use Rattle.hpb_rings.proofs.client.Client.refresh.Goals as goal

pub invariant_of-self-clause-sent_is : goal.invariant_of-self-clause-sent_is
invariant_of-self-clause-sent_is g c =
    let self = c.args.self.now in
    let kept = taken-later self.taken (answers_of self.seat self.viewer) (answers_of self.seat c.view_again-is_there.new.viewer) (c.view_again-is_there.ensures.answers self.seat) self.there in
    self.sent_is ∙ ap (λ (answers : List Answer). slips (letters_of answers ++ posted self.waiting.items)) (sym kept)

pub invariant_of-self-clause-there : goal.invariant_of-self-clause-there
invariant_of-self-clause-there g c =
    let self = c.args.self.now in
    longer-later self.taken (answers_of self.seat self.viewer) (answers_of self.seat c.view_again-is_there.new.viewer) (c.view_again-is_there.ensures.answers self.seat) self.there

pub invariant_of-self-clause-counted : goal.invariant_of-self-clause-counted
invariant_of-self-clause-counted g c =
    let self = c.args.self.now in
    let kept = taken-later self.taken (answers_of self.seat self.viewer) (answers_of self.seat c.view_again-is_there.new.viewer) (c.view_again-is_there.ensures.answers self.seat) self.there in
    self.counted ∙ ap newly (sym kept)
