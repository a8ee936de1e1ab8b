use Rattle.std.proofs.Common.{sym, ap, ◌∙◌, ◌++◌, [], ◌∷◌}
use Rattle.hpb_rules.proofs.Places.{range_more}
use Rattle.hpb_tree.proofs.building.first_nodes.Goals as goal

pub loop-place-preserved : goal.loop-place-preserved
loop-place-preserved c =
    c.in_ok-push.ensures.items
    ∙ ap (λ ids. ids ++ c.new.result ∷ []) c.loop-place.invariant
    ∙ rw c.new.ensures (sym (range_more c.loop-place.place))
