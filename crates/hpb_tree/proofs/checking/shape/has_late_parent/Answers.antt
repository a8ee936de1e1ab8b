use Rattle.std.proofs.Common.{sym, ◌∙◌, ap}
use Rattle.hpb_rules.specs.Drafts.{is_late}
use Rattle.hpb_rules.specs.Tree.{parent_of}
use Rattle.hpb_tree.specs.Draft.{nodes_said}
use Rattle.hpb_tree.proofs.Said.{some_place, no_place}
use Rattle.hpb_tree.proofs.checking.shape.has_late_parent.Goals as goal

pub returns-then-is_late : goal.returns-then-is_late
returns-then-is_late c = some_place (λ m. is_late m (parent_of (nodes_said c.args.nodes.now) m)) c.args.nodes.now c.loop-place.place c.loop-place-test.true (sym c.if-is_late.true ∙ c.is_late.ensures ∙ ap (is_late c.loop-place.place) c.parent_at.ensures)

pub returns : goal.returns
returns c = no_place (λ m. is_late m (parent_of (nodes_said c.args.nodes.now) m)) c.args.nodes.now c.loop-place.place c.loop-place-test.false c.loop-place.invariant
