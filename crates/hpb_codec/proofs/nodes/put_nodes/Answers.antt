use Rattle.std.proofs.Common.{◌≡◌, ◌<◌, ◌++◌, ℕ, List, [], None, length, take, ap, ◌∙◌, arith}
use Rattle.std.specs.List.{flat_map}
use Rattle.std.proofs.lemmas.List.{take_all}
use Rattle.hpb_rules.specs.Text.{node_name}
use Rattle.hpb_rules.specs.Tree.{Node, parent_of, terms_of}
use Rattle.hpb_codec.specs.Numbers.{before, filled}
use Rattle.hpb_codec.specs.NodePages.{entry_of, node_of}
use Rattle.hpb_codec.proofs.Numbers.{before_none}
use Rattle.hpb_codec.proofs.Entries.{node_entry, one_more}
use Rattle.hpb_codec.proofs.nodes.put_nodes.Goals as goal

none : Node
none = record { name = []; parent = None; terms = None }

pub loop-place-preserved : goal.loop-place-preserved
loop-place-preserved c =
    let nodes = c.args.definition.now.nodes in
    let i = c.loop-place.place in
    let lt : i < length nodes = omega arith in
    record {
      place = omega (arith, c.loop-place.invariant.place);
      text = one_more node_of nodes i none c.args.page.now c.loop-place.page c.put_node-at.new.page c.loop-place.at c.put_node-at.result lt c.loop-place.invariant.text
          (c.put_node-at.ensures.written ∙ ap (λ (n : ℕ). before c.loop-place.at c.loop-place.page ++ entry_of (node_name nodes n) (parent_of nodes n) (terms_of nodes n)) c.new.ensures ∙ ap (λ (e : List ℕ). before c.loop-place.at c.loop-place.page ++ e) (node_entry nodes i none lt));
    }

pub returns : goal.returns
returns c =
    let nodes = c.args.definition.now.nodes in
    let size : length c.loop-place.page ≡ 4096 = omega arith in
    let whole : take c.loop-place.place nodes ≡ nodes = take_all c.loop-place.place nodes (omega arith) in
    c.fill_zeros.ensures ∙ ap (λ (n : ℕ). filled n (before c.loop-place.at c.loop-place.page)) size
    ∙ ap (filled 4096) (c.loop-place.invariant.text ∙ ap (λ (b : List ℕ). b ++ flat_map node_of (take c.loop-place.place nodes)) (before_none c.args.page.now) ∙ ap (flat_map node_of) whole)
