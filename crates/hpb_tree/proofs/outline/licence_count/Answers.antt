use Rattle.std.proofs.Common.{◌≡◌, length, sym, ap, ◌∙◌, arith}
use Rattle.std.specs.Option.{is_some}
use Rattle.std.specs.List.{range_with_len}
use Rattle.hpb_rules.specs.Tree.{terms_of}
use Rattle.hpb_tree.specs.Draft.{nodes_said}
use Rattle.hpb_rules.proofs.Places.{count_yes, count_no}
use Rattle.hpb_tree.specs.Licences.{licences_among}
use Rattle.hpb_tree.proofs.Said.{length-nodes_said}
use Rattle.hpb_tree.proofs.ByPlace.{count_is}
use Rattle.hpb_tree.proofs.outline.licence_count.Goals as goal
use Rattle.hpb_tree.proofs.outline.licence_count.Goals.{then-is_licence, else-is_licence}

pub loop-place-preserved : goal.loop-place-preserved
loop-place-preserved c =
    elim c.if-is_licence.branch [
      | then-is_licence w ↦ (w.count-is ∙ count_yes (λ m. is_some (terms_of (nodes_said c.args.nodes.now) m)) _ _ (sym c.is_licence.ensures ∙ w.if-is_licence.true) c.loop-place.invariant.0, omega arith)
      | else-is_licence w ↦ (w.count-is ∙ count_no (λ m. is_some (terms_of (nodes_said c.args.nodes.now) m)) _ _ (sym c.is_licence.ensures ∙ w.if-is_licence.false) c.loop-place.invariant.0, omega arith)
    ]

pub returns-clause-value : goal.returns-clause-value
returns-clause-value c =
    let all : c.loop-place.place ≡ length (nodes_said c.args.nodes.now) = omega (arith, length-nodes_said c.args.nodes.now) in
    c.loop-place.invariant.0 ∙ ap (λ n. licences_among (nodes_said c.args.nodes.now) (range_with_len 0 n)) all ∙ count_is (nodes_said c.args.nodes.now)
