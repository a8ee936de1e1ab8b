use Rattle.std.proofs.Common.{List, sym, ◌∙◌, arith}
use Rattle.hpb_rules.specs.Tree.{Node}
use Rattle.hpb_tree.specs.Draft.{nodes_said}
use Rattle.hpb_tree.proofs.Masks.{filled_all, filled_package, filled_other, filled_own}
use Rattle.hpb_tree.proofs.Said.{length-nodes_said}
use Rattle.hpb_tree.proofs.Sound.{number_most}
use Rattle.hpb_tree.proofs.summing.licences.Goals as goal
use Rattle.hpb_tree.proofs.summing.licences.Goals.{then-is_licence, then-is_at_or_under, else-is_at_or_under, else-is_licence}

pub overflow_shl-mask : goal.overflow_shl-mask
overflow_shl-mask c =
    omega (arith, number_most (nodes_said c.args.nodes.now) c.requires c.loop-place.place (omega (arith, length-nodes_said c.args.nodes.now)) (sym c.is_licence.ensures ∙ c.if-is_licence.true))

pub overflow_add-number : goal.overflow_add-number
overflow_add-number c =
    omega (arith, number_most (nodes_said c.args.nodes.now) c.requires c.loop-place.place (omega (arith, length-nodes_said c.args.nodes.now)) (sym c.is_licence.ensures ∙ c.if-is_licence.true))

pub loop-place-preserved : goal.loop-place-preserved
loop-place-preserved c =
    let nodes : List Node = nodes_said c.args.nodes.now in
    elim c.if-is_licence.branch [
      | then-is_licence w ↦ elim w.if-is_at_or_under.branch [
        | then-is_at_or_under w' ↦ rw (w.mask-is, w.number-is, w'.mask-is) (filled_own nodes c.args.node c.loop-place.place c.loop-place.mask c.loop-place.number c.loop-place.invariant
            (omega (arith, number_most nodes c.requires c.loop-place.place (omega (arith, length-nodes_said c.args.nodes.now)) (sym c.is_licence.ensures ∙ w.if-is_licence.true)))
            (sym c.is_licence.ensures ∙ w.if-is_licence.true) (sym w.is_at_or_under.ensures ∙ w'.if-is_at_or_under.true))
        | else-is_at_or_under w' ↦ rw (w.mask-is, w.number-is, w'.mask-is) (filled_other nodes c.args.node c.loop-place.place c.loop-place.mask c.loop-place.number c.loop-place.invariant
            (sym c.is_licence.ensures ∙ w.if-is_licence.true) (sym w.is_at_or_under.ensures ∙ w'.if-is_at_or_under.false))
      ]
      | else-is_licence w ↦ rw (w.mask-is, w.number-is) (filled_package nodes c.args.node c.loop-place.place c.loop-place.mask c.loop-place.number c.loop-place.invariant (sym c.is_licence.ensures ∙ w.if-is_licence.false))
    ]

pub returns : goal.returns
returns c = filled_all (nodes_said c.args.nodes.now) c.args.node c.loop-place.place c.loop-place.mask c.loop-place.number (omega (arith, length-nodes_said c.args.nodes.now)) c.loop-place.invariant
