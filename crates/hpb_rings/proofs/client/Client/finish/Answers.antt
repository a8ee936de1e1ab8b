use Rattle.std.proofs.Common.{◌∙◌, ◌∷◌, [], ◌++◌, ap, List}
use Rattle.rtrb.specs.Ring.{sent}
use Rattle.hpb_board.specs.Publication.{answers_of}
use Rattle.hpb_rings.specs.declared.slip.Slip.{Slip}
use Rattle.hpb_rings.specs.declared.slip.Slip.TheVariants.{End}
use Rattle.hpb_rings.proofs.Taking.{in-order, whole}
use Rattle.hpb_rings.proofs.client.Client.finish.Goals as goal

pub invariant_of-report-clause-in_order : goal.invariant_of-report-clause-in_order
invariant_of-report-clause-in_order g c =
    let self = c.args.self in
    let end = c.push_reserved.ensures.sent.0 ∙ ap (λ (l : List Slip). l ++ End ∷ []) c.is_full.ensures.looked.1 in
    in-order self.taken (answers_of self.seat self.viewer) self.waiting.items (sent self.letters) (sent c.push_reserved.new.self) self.sent_is self.there end

pub invariant_of-report-clause-whole : goal.invariant_of-report-clause-whole
invariant_of-report-clause-whole g c =
    let self = c.args.self in
    let end = c.push_reserved.ensures.sent.0 ∙ ap (λ (l : List Slip). l ++ End ∷ []) c.is_full.ensures.looked.1 in
    whole self.taken (answers_of self.seat self.viewer) self.waiting.items (sent self.letters) (sent c.push_reserved.new.self) self.is_halted self.sent_is c.requires end
