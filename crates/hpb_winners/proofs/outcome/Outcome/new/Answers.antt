use Rattle.std.proofs.Common.{◌≡◌, None, rules, length, replicate, ap, subst, sym, ◌∙◌, arith}
use Rattle.std.proofs.lemmas.List.{with_items_is}
use Rattle.std.specs.Vec.{with_items}
use Rattle.hpb_rules.specs.declared.limits.TheConstants.{MOST_NODES}
use Rattle.hpb_winners.specs.View.{AreBefore, AreParents}
use Rattle.hpb_winners.proofs.NoBid.{outcome_none, none_before}
use Rattle.hpb_winners.proofs.Tables.{zeros_small, sized}
use Rattle.hpb_winners.proofs.outcome.Outcome.new.Goals as goal

pub keep_parents-requires : goal.keep_parents-requires
keep_parents-requires c =
    let none : c.deref_mut.result.now ≡ replicate MOST_NODES None = c.deref_mut.ensures.value ∙ c.in_ok-parents.ensures.items_if_clones_equal (λ y e. search rules) in
    record { count = sized none; before = none_before none }

written : (c : goal.In_ok-new) → (with_items c.in_ok-parents.parents c.keep_parents.new.parents).items ≡ c.keep_parents.new.parents
written c = with_items_is c.in_ok-parents.parents c.keep_parents.new.parents (omega arith)

pub invariant_of-result : goal.invariant_of-result
invariant_of-result c = record {
  parents = ap length (written c) ∙ omega (arith, c.in_ok-parents.ensures.len, ap length c.deref_mut.ensures.value);
  inside = sized (c.in_ok-vec.ensures.items_if_clones_equal (λ y e. e));
  values = sized c.in_ok-new.ensures.values;
  before = subst AreBefore (sym (written c)) c.keep_parents.ensures.before;
  most_inside = zeros_small (c.in_ok-vec.ensures.items_if_clones_equal (λ y e. e));
  most_value = zeros_small c.in_ok-new.ensures.values;
  most_revenue = omega arith;
}

pub returns : goal.returns
returns c = outcome_none c.args.tree.now.nodes c.facts.ensures.most_nodes
    (subst AreBefore (sym (written c)) c.keep_parents.ensures.before)
    (subst (AreParents c.args.tree.now.nodes) (sym (written c)) c.keep_parents.ensures.parents)
    (c.in_ok-vec.ensures.items_if_clones_equal (λ y e. e))
    c.in_ok-new.ensures.values
