use Rattle.std.proofs.Common.{sym, ◌∙◌, ap}
use Rattle.hpb_rules.specs.Drafts.{are_bad_terms}
use Rattle.hpb_rules.specs.Tree.{terms_of}
use Rattle.hpb_tree.specs.Draft.{nodes_said}
use Rattle.hpb_tree.proofs.ByPlace.{any_over_terms}
use Rattle.hpb_tree.proofs.Said.{some_place, no_place}
use Rattle.hpb_tree.proofs.checking.terms.has_bad_terms.Goals as goal

pub returns-then-are_bad_terms : goal.returns-then-are_bad_terms
returns-then-are_bad_terms c =
    some_place (λ m. are_bad_terms c.args.draft.now.step (terms_of (nodes_said c.args.draft.now.nodes.items) m)) c.args.draft.now.nodes.items c.loop-place.place
    (rw c.as_slice-nodes.ensures.value at c.loop-place-test.true)
    (sym c.if-are_bad_terms.true ∙ c.are_bad_terms.ensures ∙ ap (are_bad_terms c.args.draft.now.step) (rw c.as_slice-nodes.ensures.value at c.terms_at.ensures))
    ∙ any_over_terms (are_bad_terms c.args.draft.now.step) (nodes_said c.args.draft.now.nodes.items)

pub returns : goal.returns
returns c =
    no_place (λ m. are_bad_terms c.args.draft.now.step (terms_of (nodes_said c.args.draft.now.nodes.items) m)) c.args.draft.now.nodes.items c.loop-place.place
    (rw c.as_slice-nodes.ensures.value at c.loop-place-test.false) (rw c.as_slice-nodes.ensures.value at c.loop-place.invariant)
    ∙ any_over_terms (are_bad_terms c.args.draft.now.step) (nodes_said c.args.draft.now.nodes.items)
