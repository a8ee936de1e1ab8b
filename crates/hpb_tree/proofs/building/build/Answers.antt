use Rattle.std.proofs.Common.{◌≡◌, length, sym, ap, ◌∙◌, arith}
use Rattle.std.proofs.lemmas.List.{length-map}
use Rattle.hpb_rules.specs.Tree.{Node, Bidder}
use Rattle.hpb_tree.specs.Keys.{key_of}
use Rattle.hpb_tree.specs.Definition.{bidders_view}
use Rattle.hpb_tree.specs.Draft.{rules_of, node_said, bidder_said, bidders_said}
use Rattle.hpb_tree.proofs.Accepted.{accepted, sound, stage_within, some_bidder, most_bidders, draft_units_within}
use Rattle.hpb_tree.proofs.Lists.{map_map}
use Rattle.hpb_tree.proofs.building.build.Goals as goal

pub build_stages-requires : goal.build_stages-requires
build_stages-requires c = rw c.as_slice.ensures.value (λ k d h. (stage_within (rules_of c.args.draft.now) (accepted (rules_of c.args.draft.now) c.requires) k d h).1)

pub build_bidders-requires : goal.build_bidders-requires
build_bidders-requires c = rw c.as_slice-2.ensures.value (λ k d h. draft_units_within c.args.draft.now (accepted (rules_of c.args.draft.now) c.requires) k d h)

pub invariant_of-result : goal.invariant_of-result
invariant_of-result c =
    let stages : c.in_ok-stages.stages.items ≡ c.args.draft.now.stages.items = rw c.as_slice.ensures.value at c.in_ok-stages.ensures in
    let bidders : bidders_view c.in_ok-bidders.bidders.items ≡ bidders_said c.args.draft.now.bidders.items = rw c.as_slice-2.ensures.value at c.in_ok-bidders.ensures in
    let node_keys = rw c.as_slice-3.ensures.value at c.in_ok-node_hints.ensures in
    let bidder_keys = rw c.as_slice-4.ensures.value at c.in_ok-bidder_hints.ensures in
    record {
      accepted = rw (c.in_ok-tree.ensures, stages, bidders) c.requires;
      node_keys = rw c.in_ok-tree.ensures (node_keys ∙ sym (map_map node_said (λ (n : Node). key_of n.name) c.args.draft.now.nodes.items));
      bidder_keys = rw bidders (bidder_keys ∙ sym (map_map bidder_said (λ (b : Bidder). key_of b.name) c.args.draft.now.bidders.items));
    }

pub new-requires : goal.new-requires
new-requires c =
    let rules = rules_of c.args.draft.now in
    let nodes = sound rules (accepted rules c.requires) in
    let count = length-map c.args.draft.now.nodes.items node_said in
    let same = ap length c.as_slice-3.ensures.value in
    record { some = omega (arith, same, count, nodes.some); most = omega (arith, same, count, nodes.most) }

pub new-requires-2 : goal.new-requires-2
new-requires-2 c =
    let rules = rules_of c.args.draft.now in
    let known = accepted rules c.requires in
    let count = length-map c.args.draft.now.bidders.items bidder_said in
    let same = ap length c.as_slice-4.ensures.value in
    record { some = omega (arith, same, count, some_bidder rules known); most = omega (arith, same, count, most_bidders rules known) }
