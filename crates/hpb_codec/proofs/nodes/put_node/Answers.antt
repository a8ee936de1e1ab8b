use Rattle.std.proofs.Common.{◌≡◌, ◌++◌, ℕ, List, Option, Some, None, ap, sym, ◌∙◌}
use Rattle.hpb_rules.specs.declared.licence.Terms.{Terms}
use Rattle.hpb_rules.specs.Text.{node_name}
use Rattle.hpb_rules.specs.Tree.{TreeRules, parent_of, terms_of}
use Rattle.hpb_codec.specs.Numbers.{before}
use Rattle.hpb_codec.specs.NodePages.{entry_of, node_fields, parent_byte}
use Rattle.hpb_codec.proofs.nodes.put_node.Goals as goal

pub returns-in-Some-clause-written : goal.returns-in-Some-clause-written
unfolding entry_of
returns-in-Some-clause-written c =
    let nodes = c.args.definition.now.nodes in
    let old = before c.args.at c.args.page.now in
    let name = node_name nodes c.args.node in
    let parent = parent_byte (parent_of nodes c.args.node) in
    let terms : terms_of nodes c.args.node ≡ Some c.in-Some.terms = sym (c.in-Some.ensures ∙ ap (λ (t : TreeRules). terms_of t.nodes c.args.node) c.tree-tree.ensures) in
    c.put_fields.ensures.written
    ∙ ap (λ (n : List ℕ). old ++ node_fields n c.parent_byte-parent.result 1 c.in-Some.terms.units c.in-Some.terms.opening) c.name-name.ensures.value
    ∙ ap (λ (p : ℕ). old ++ node_fields name p 1 c.in-Some.terms.units c.in-Some.terms.opening)
    (c.parent_byte-parent.ensures ∙ ap parent_byte (c.parent.ensures.value ∙ ap (λ (t : TreeRules). parent_of t.nodes c.args.node) c.tree-tree.ensures))
    ∙ ap (λ (t : Option Terms). old ++ entry_of name (parent_of nodes c.args.node) t) (sym terms)

pub returns-in-None-clause-written : goal.returns-in-None-clause-written
unfolding entry_of
returns-in-None-clause-written c =
    let nodes = c.args.definition.now.nodes in
    let old = before c.args.at c.args.page.now in
    let name = node_name nodes c.args.node in
    let terms : terms_of nodes c.args.node ≡ None = sym (c.in-None.ensures ∙ ap (λ (t : TreeRules). terms_of t.nodes c.args.node) c.tree-tree.ensures) in
    c.put_fields-in-None.ensures.written
    ∙ ap (λ (n : List ℕ). old ++ node_fields n c.parent_byte-parent.result 0 0 0) c.name-name.ensures.value
    ∙ ap (λ (p : ℕ). old ++ node_fields name p 0 0 0)
    (c.parent_byte-parent.ensures ∙ ap parent_byte (c.parent.ensures.value ∙ ap (λ (t : TreeRules). parent_of t.nodes c.args.node) c.tree-tree.ensures))
    ∙ ap (λ (t : Option Terms). old ++ entry_of name (parent_of nodes c.args.node) t) (sym terms)
