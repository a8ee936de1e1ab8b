use Rattle.std.proofs.Common.{nat_lt, lt-ltb, sym, ◌∙◌, ap}
use Rattle.hpb_rules.specs.declared.limits.TheConstants.{MOST_LEVELS}
use Rattle.hpb_rules.specs.Drafts.{depth}
use Rattle.hpb_tree.specs.Draft.{nodes_said}
use Rattle.hpb_tree.proofs.Said.{some_place, no_place}
use Rattle.hpb_tree.proofs.checking.limits.is_too_deep.Goals as goal

pub returns-then-depth-gt-MOST_LEVELS : goal.returns-then-depth-gt-MOST_LEVELS
returns-then-depth-gt-MOST_LEVELS c =
    some_place (λ m. nat_lt MOST_LEVELS (depth (nodes_said c.args.nodes.now) m)) c.args.nodes.now c.loop-place.place c.loop-place-test.true
    (sym (lt-ltb MOST_LEVELS c.depth.result c.if-depth-gt-MOST_LEVELS.true) ∙ ap (nat_lt MOST_LEVELS) c.depth.ensures.value)

pub returns : goal.returns
returns c = no_place (λ m. nat_lt MOST_LEVELS (depth (nodes_said c.args.nodes.now) m)) c.args.nodes.now c.loop-place.place c.loop-place-test.false c.loop-place.invariant
