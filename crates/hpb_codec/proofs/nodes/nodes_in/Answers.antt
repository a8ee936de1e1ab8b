use Rattle.std.proofs.Common.{◌≡◌, ◌++◌, ◌*◌, ◌<◌, ℕ, List, [], ◌∷◌, Option, None, map, length, take, get_or, ap, sym, subst, ◌∙◌, arith}
use Rattle.std.specs.Prelude.{IsSomeAnd}
use Rattle.std.specs.List.{flat_map}
use Rattle.std.proofs.lemmas.List.{map-append, take_all, take_more}
use Rattle.hpb_rules.specs.Tree.{Node}
use Rattle.hpb_tree.specs.Draft.{node_said}
use Rattle.hpb_tree.specs.declared.draft.NodeDraft.{NodeDraft}
use Rattle.hpb_codec.specs.Numbers.{before}
use Rattle.hpb_codec.specs.NodePages.{HasEntry, node_of}
use Rattle.hpb_codec.proofs.Tables.{recursion_at}
use Rattle.hpb_codec.proofs.Entries.{entries_sized, next_read, node_sized, page_front}
use Rattle.hpb_codec.proofs.nodes.nodes_in.Goals as goal

none : Node
none = record { name = []; parent = None; terms = None }

pub loop-init : goal.loop-init
loop-init c = record {
  left = omega (arith, c.front_bytes.ensures.size);
  only = λ nodes len all e.
      let size : length (flat_map node_of nodes) ≡ c.args.count * 32 = entries_sized node_of HasEntry 32 node_sized nodes all ∙ ap (λ (n : ℕ). n * 32) len in
      (c.front_bytes.ensures.front ∙ ap (before (c.args.count * 32)) e ∙ page_front (flat_map node_of nodes) 4096 (c.args.count * 32) size, ap (map node_said) c.in_ok-nodes.ensures.items);
}

pub front_bytes-requires-in-loop : goal.front_bytes-requires-in-loop
front_bytes-requires-in-loop c = omega (arith, c.loop.invariant.left)

pub returns-in-None : goal.returns-in-None
returns-in-None c nodes len all e =
    let i = c.loop.counter in
    let lt : i < length nodes = omega (arith, len) in
    let so_far = c.loop.invariant.only nodes len all e in
    let next = next_read node_of HasEntry 32 node_sized nodes i none c.loop.rest.now c.front_bytes-in-loop.result.0.now c.front_bytes-in-loop.result.1.now lt all so_far.0 c.front_bytes-in-loop.ensures.whole c.front_bytes-in-loop.ensures.size in
    subst (λ (o : Option NodeDraft). IsSomeAnd o (λ draft. node_said draft ≡ get_or nodes i none)) c.in-None.is (c.in_ok-node.ensures (get_or nodes i none) (recursion_at HasEntry nodes i none lt all) next.0)

pub loop-preserved : goal.loop-preserved
loop-preserved c = record {
  left = omega (arith, c.loop.invariant.left, c.front_bytes-in-loop.ensures.left);
  only = λ nodes len all e.
      let i = c.loop.counter in
      let lt : i < length nodes = omega (arith, len) in
      let so_far = c.loop.invariant.only nodes len all e in
      let next = next_read node_of HasEntry 32 node_sized nodes i none c.loop.rest.now c.front_bytes-in-loop.result.0.now c.front_bytes-in-loop.result.1.now lt all so_far.0 c.front_bytes-in-loop.ensures.whole c.front_bytes-in-loop.ensures.size in
      let read : node_said c.in-Some.node ≡ get_or nodes i none
      = subst (λ (o : Option NodeDraft). IsSomeAnd o (λ draft. node_said draft ≡ get_or nodes i none)) c.in-Some.is (c.in_ok-node.ensures (get_or nodes i none) (recursion_at HasEntry nodes i none lt all) next.0) in (
        next.1,
        ap (map node_said) c.in_ok-push-in-Some.ensures.items ∙ map-append node_said c.loop.nodes.items (c.in-Some.node ∷ [])
            ∙ ap (λ (ns : List Node). ns ++ node_said c.in-Some.node ∷ []) so_far.1 ∙ ap (λ (n : Node). take i nodes ++ n ∷ []) read ∙ sym (take_more nodes i none lt),
      );
}

pub returns : goal.returns
returns c nodes len all e = (c.loop.invariant.only nodes len all e).1 ∙ take_all c.loop.counter nodes (omega (arith, len))
