-- What holds of the kept fields of a definition.
use Rattle.std.proofs.Common.{◌≡◌, ℕ, ◌<◌, ◌≤◌, List, map, length, get_or, None, Some, ap, ◌∙◌, subst, arith}
use Rattle.std.specs.List.{All, slice_get}
use Rattle.std.proofs.lemmas.List.{length-map, get_or-map}
use Rattle.hpb_rules.specs.declared.limits.TheConstants.{MOST_BIDDERS, MOST_STAGES, LEAST_PERCENTAGE, MOST_PERCENTAGE, MOST_BIDDER_UNITS}
use Rattle.hpb_rules.specs.Drafts.{draft_refusal}
use Rattle.hpb_rules.specs.Lines.{node_named, bidder_named}
use Rattle.hpb_rules.specs.Tree.{Rules, Node, Bidder}
use Rattle.hpb_tree.specs.Keys.{key_of}
use Rattle.hpb_tree.specs.declared.definition.Bidder.{Bidder as Entry}
use Rattle.hpb_tree.specs.declared.definition.Definition.TheInside.{Inside}
use Rattle.hpb_tree.specs.Definition.{bidder_view, bidders_view, rules_view, IsDefined}
use Rattle.hpb_tree.proofs.Accepted.{Accepted, accepted, some_stage, most_stages, stage_within, some_bidder, most_bidders, units_within, node_by_key, bidder_by_key}
use Rattle.hpb_tree.proofs.Keys.{AreBytes}

pub record Kept (d : Inside) : Type 0 where
  pub some_stage : 0 < length d.stages.items
  pub most_stages : length d.stages.items ≤ MOST_STAGES
  pub least_percentage : All (λ p. LEAST_PERCENTAGE ≤ p) d.stages.items
  pub most_percentage : All (λ p. p ≤ MOST_PERCENTAGE) d.stages.items
  pub some_bidder : 0 < length d.bidders.items
  pub most_bidders : length d.bidders.items ≤ MOST_BIDDERS
  pub some_units : All (λ b. 0 < b.units) d.bidders.items
  pub most_units : All (λ b. b.units ≤ MOST_BIDDER_UNITS) d.bidders.items

pub kept : (d : Inside) → IsDefined d → Kept d
kept d e = record {
  some_stage = some_stage rules a;
  most_stages = most_stages rules a;
  least_percentage = λ k p h. (stage_within rules a k p h).0;
  most_percentage = λ k p h. (stage_within rules a k p h).1;
  some_bidder = omega (arith, count, some_bidder rules a);
  most_bidders = omega (arith, count, most_bidders rules a);
  some_units = λ k b h. omega (arith, at k b h, (units_within rules a k (bidder_view b) (omega (arith, count))).0);
  most_units = λ k b h. omega (arith, at k b h, (units_within rules a k (bidder_view b) (omega (arith, count))).1);
}
  where
    rules : Rules
    rules = rules_view d

    a : Accepted (rules_view d)
    a = accepted (rules_view d) e.accepted

    count : length (bidders_view d.bidders.items) ≡ length d.bidders.items
    count = length-map d.bidders.items bidder_view

    at : (k : ℕ) (b : Entry) → k < length d.bidders.items → (get_or (bidders_view d.bidders.items) k (bidder_view b)).units ≡ (get_or d.bidders.items k b).units
    at k b h = ap (λ (x : Bidder). x.units) (get_or-map bidder_view d.bidders.items k b (bidder_view b) h)

-- the value of a definition is a set of rules that isn't refused
pub accepted_value : (d : Inside) (rules : Rules) → IsDefined d → rules_view d ≡ rules → Accepted rules
accepted_value d rules e seen = accepted rules (subst (λ (r : Rules). draft_refusal r ≡ None) seen e.accepted)

-- the node or the bidder at the place of a key
module _ (d : Inside) (rules : Rules) (defined : IsDefined d) (seen : rules_view d ≡ rules) (place : ℕ) (name : List ℕ) (bytes : AreBytes name) where
  pub node_hinted : slice_get d.node_hints.keys.items place ≡ Some (key_of name) → (node_named rules name ≡ Some place) × (place < length rules.nodes)
  node_hinted here =
      let keys : d.node_hints.keys.items ≡ map (λ (n : Node). key_of n.name) rules.nodes = defined.node_keys ∙ ap (λ (r : Rules). map (λ (n : Node). key_of n.name) r.nodes) seen in
      node_by_key rules (accepted_value d rules defined seen) d.node_hints.keys.items place name keys bytes here

  pub bidder_hinted : slice_get d.bidder_hints.keys.items place ≡ Some (key_of name) → (bidder_named rules name ≡ Some place) × (place < length rules.bidders)
  bidder_hinted here =
      let keys : d.bidder_hints.keys.items ≡ map (λ (b : Bidder). key_of b.name) rules.bidders = defined.bidder_keys ∙ ap (λ (r : Rules). map (λ (b : Bidder). key_of b.name) r.bidders) seen in
      bidder_by_key rules (accepted_value d rules defined seen) d.bidder_hints.keys.items place name keys bytes here
