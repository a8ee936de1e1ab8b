use Rattle.std.proofs.Common.{nat_lt, ◌&&◌, sym, ◌∙◌}
use Rattle.std.specs.Option.{is_none}
use Rattle.hpb_rules.specs.Drafts.{children_of}
use Rattle.hpb_rules.specs.Tree.{terms_of}
use Rattle.hpb_tree.specs.Draft.{nodes_said}
use Rattle.hpb_tree.proofs.Said.{some_place, no_place}
use Rattle.hpb_tree.proofs.checking.shape.has_thin_package.Goals as goal

pub returns-then-is_thin_package : goal.returns-then-is_thin_package
returns-then-is_thin_package c = some_place (λ m. is_none (terms_of (nodes_said c.args.nodes.now) m) && nat_lt (children_of (nodes_said c.args.nodes.now) m) 2) c.args.nodes.now c.loop-place.place c.loop-place-test.true (sym c.if-is_thin_package.true ∙ c.is_thin_package.ensures)

pub returns : goal.returns
returns c = no_place (λ m. is_none (terms_of (nodes_said c.args.nodes.now) m) && nat_lt (children_of (nodes_said c.args.nodes.now) m) 2) c.args.nodes.now c.loop-place.place c.loop-place-test.false c.loop-place.invariant
