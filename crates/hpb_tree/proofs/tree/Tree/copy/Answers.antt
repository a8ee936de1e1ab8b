use Rattle.std.proofs.Common.{◌≡◌, refl}
use Rattle.hpb_tree.specs.Inside.{AreCopies}
use Rattle.hpb_tree.proofs.Copies.{copied_views, checked_copy}
use Rattle.hpb_tree.proofs.tree.Tree.copy.Goals as goal

pub invariant_of-result : goal.invariant_of-result
invariant_of-result c =
    let nodes : AreCopies c.self.inside.nodes.items c.in_ok-nodes.nodes.items = rw c.as_slice.ensures.value at c.in_ok-nodes.ensures in
    let ids : c.in_ok-to_vec.field-0.items ≡ c.self.inside.ids.items = rw c.as_slice-2.ensures.value at (c.in_ok-to_vec.ensures.items_if_clones_equal (λ one other same. same)) in
    checked_copy c.self.inside _ refl refl nodes ids c.self.invariant

pub returns : goal.returns
returns c =
    let seen = copied_views c.self.inside.nodes.items c.in_ok-nodes.nodes.items (rw c.as_slice.ensures.value at c.in_ok-nodes.ensures) in
    rw seen c.self.view_is
