use Rattle.std.proofs.Common.{◌≡◌, length, refl, ap, ◌∙◌, arith}
use Rattle.std.specs.List.{range_with_len}
use Rattle.hpb_tree.specs.Draft.{rules_of, nodes_said}
use Rattle.hpb_tree.proofs.Accepted.{accepted, step_within, percent_within, sound, checked}
use Rattle.hpb_tree.proofs.Said.{length-nodes_said}
use Rattle.hpb_tree.proofs.building.build_tree.Goals as goal

pub build_nodes-requires : goal.build_nodes-requires
build_nodes-requires c = rw c.as_slice.ensures.value (sound (rules_of c.args.draft.now) (accepted (rules_of c.args.draft.now) c.requires))

pub overflow_cast-result : goal.overflow_cast-result
overflow_cast-result c = omega (arith, step_within (rules_of c.args.draft.now) (accepted (rules_of c.args.draft.now) c.requires))

pub overflow_cast-result-2 : goal.overflow_cast-result-2
overflow_cast-result-2 c = omega (arith, percent_within (rules_of c.args.draft.now) (accepted (rules_of c.args.draft.now) c.requires))

pub invariant_of-result : goal.invariant_of-result
invariant_of-result c =
    let count : c.len.result ≡ length (nodes_said c.args.draft.now.nodes.items) = omega (arith, c.len.ensures, length-nodes_said c.args.draft.now.nodes.items) in
    checked (rules_of c.args.draft.now) (accepted (rules_of c.args.draft.now) c.requires) _ refl refl
    (rw c.as_slice.ensures.value at c.in_ok-nodes.ensures.views)
    (c.in_ok-first_nodes.ensures ∙ ap (range_with_len 0) count)
    (rw c.as_slice.ensures.value at c.in_ok-nodes.ensures.sums)

pub first_nodes-requires : goal.first_nodes-requires
first_nodes-requires c = omega (arith, c.len.ensures, length-nodes_said c.args.draft.now.nodes.items, (sound (rules_of c.args.draft.now) (accepted (rules_of c.args.draft.now) c.requires)).most)
