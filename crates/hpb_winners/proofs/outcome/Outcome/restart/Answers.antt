use Rattle.std.proofs.Common.{◌≡◌, length, replicate, ap, subst, sym, ◌∙◌, arith}
use Rattle.std.proofs.lemmas.List.{with_items_is}
use Rattle.std.specs.Vec.{with_items}
use Rattle.hpb_rules.specs.declared.limits.TheConstants.{MOST_NODES}
use Rattle.hpb_winners.specs.View.{AreBefore, AreParents}
use Rattle.hpb_winners.proofs.NoBid.{outcome_none}
use Rattle.hpb_winners.proofs.Tables.{zeros_small, sized}
use Rattle.hpb_winners.proofs.outcome.Outcome.restart.Goals as goal

-- the tables that are kept
written : (c : goal.After-self-2-1) → (with_items c.self.inside.parents c.keep_parents.new.parents).items ≡ c.keep_parents.new.parents
written c = with_items_is c.self.inside.parents c.keep_parents.new.parents (omega arith)

no_insides : (c : goal.After-self-2-1) → c.fill.new.self.items ≡ replicate MOST_NODES 0
no_insides c = c.fill.ensures.items (λ y h. h) ∙ ap (λ k. replicate k 0) (c.self.inside.inside.ok.0 ∙ c.self.invariant.inside)

no_values : (c : goal.After-self-2-1) → c.clear.new.self.values.items ≡ replicate MOST_NODES 0
no_values c = c.clear.ensures.values ∙ ap (λ k. replicate k 0) c.self.invariant.values

pub invariant_of-self : goal.invariant_of-self
invariant_of-self c = record {
  parents = ap length (written c) ∙ omega (arith, c.self.invariant.parents, ap length c.deref_mut.ensures.value);
  inside = sized (no_insides c);
  values = sized (no_values c);
  before = subst AreBefore (sym (written c)) c.keep_parents.ensures.before;
  most_inside = zeros_small (no_insides c);
  most_value = zeros_small (no_values c);
  most_revenue = omega arith;
}

pub returns : goal.returns
returns c = outcome_none c.args.tree.now.nodes c.facts.ensures.most_nodes
    (subst AreBefore (sym (written c)) c.keep_parents.ensures.before)
    (subst (AreParents c.args.tree.now.nodes) (sym (written c)) c.keep_parents.ensures.parents)
    (no_insides c)
    (no_values c)
