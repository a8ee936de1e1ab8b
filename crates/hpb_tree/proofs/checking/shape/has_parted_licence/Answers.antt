use Rattle.std.proofs.Common.{nat_lt, ◌&&◌, sym, ◌∙◌}
use Rattle.std.specs.Option.{is_some}
use Rattle.hpb_rules.specs.Drafts.{children_of}
use Rattle.hpb_rules.specs.Tree.{terms_of}
use Rattle.hpb_tree.specs.Draft.{nodes_said}
use Rattle.hpb_tree.proofs.Said.{some_place, no_place}
use Rattle.hpb_tree.proofs.checking.shape.has_parted_licence.Goals as goal

pub returns-then-is_parted_licence : goal.returns-then-is_parted_licence
returns-then-is_parted_licence c = some_place (λ m. is_some (terms_of (nodes_said c.args.nodes.now) m) && nat_lt 0 (children_of (nodes_said c.args.nodes.now) m)) c.args.nodes.now c.loop-place.place c.loop-place-test.true (sym c.if-is_parted_licence.true ∙ c.is_parted_licence.ensures)

pub returns : goal.returns
returns c = no_place (λ m. is_some (terms_of (nodes_said c.args.nodes.now) m) && nat_lt 0 (children_of (nodes_said c.args.nodes.now) m)) c.args.nodes.now c.loop-place.place c.loop-place-test.false c.loop-place.invariant
