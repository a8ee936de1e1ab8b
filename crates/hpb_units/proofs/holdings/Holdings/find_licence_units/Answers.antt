use Rattle.std.proofs.Common.{◌≡◌, ◌<◌, true, length, ap, ◌∙◌, arith}
use Rattle.std.proofs.lemmas.List.{length-set}
use Rattle.hpb_rules.specs.Tree.{units}
use Rattle.hpb_rules.proofs.Places.{terms_in}
use Rattle.hpb_units.proofs.Counting.{number_small, licence_at}
use Rattle.hpb_units.proofs.Numbers.{tabled_package, tabled_licence}
use Rattle.hpb_units.proofs.holdings.Holdings.find_licence_units.Goals.{After-is_some, then-is_some, else-is_some}
use Rattle.hpb_units.proofs.holdings.Holdings.find_licence_units.Goals as goal

pub invariant_of-self : goal.invariant_of-self
invariant_of-self c = c.loop-node.invariant.kept

-- the node at the place
here : (c : After-is_some) → c.node-item.result ≡ c.loop-node.node-index
here c = c.node-item.is ∙ c.nodes-node-items.ensures.each c.loop-node.node-index c.node-item.result (omega (arith, c.loop-node-test.true, c.nodes-node-items.ensures.count))

-- a licence's number is a place of the table
within : (c : After-is_some) → c.is_some.result ≡ true → c.loop-node.number < length c.loop-node.self-inside.licence_units.items
within c licence = omega (
  arith,
  c.loop-node.invariant.tabled.counted,
  c.loop-node.invariant.kept.licence_units,
  number_small c.args.tree.now.nodes c.loop-node.node-index c.facts.ensures.most_licences (licence_at c.args.tree.now.nodes (here c) c.terms.ensures c.is_some.ensures licence),
)

pub index_mut-requires : goal.index_mut-requires
index_mut-requires c = omega (arith, within (goal.at.index_mut-requires c).After-is_some c.if-is_some.true, c.loop-node.self-inside.licence_units.ok.0)

pub overflow_add-number : goal.overflow_add-number
overflow_add-number c = omega (arith, within (goal.at.overflow_add-number c).After-is_some c.if-is_some.true, c.loop-node.invariant.kept.licence_units)

pub loop-node-preserved : goal.loop-node-preserved
loop-node-preserved c =
    let nodes = c.args.tree.now.nodes in
    let same = here (goal.at.loop-node-preserved c).After-is_some in
    let s = c.loop-node.invariant in
    elim c.if-is_some.branch [
      | then-is_some w ↦ rw (w.number-is, w.self-inside-is) (record {
        tabled = tabled_licence nodes s.tabled c.facts.ensures.tree (licence_at nodes same c.terms.ensures c.is_some.ensures w.if-is_some.true)
            (w.units.ensures.value ∙ ap (units nodes) same) (within (goal.at.loop-node-preserved c).After-is_some w.if-is_some.true);
        kept = record {
          licences = s.kept.licences;
          units = s.kept.units;
          licence_units = length-set c.loop-node.self-inside.licence_units.items c.loop-node.number w.units.result ∙ s.kept.licence_units;
        };
        same_licences = s.same_licences;
        same_units = s.same_units;
      })
      | else-is_some w ↦ rw (w.number-is, w.self-inside-is) (record {
        tabled = tabled_package nodes s.tabled (licence_at nodes same c.terms.ensures c.is_some.ensures w.if-is_some.false);
        kept = s.kept;
        same_licences = s.same_licences;
        same_units = s.same_units;
      })
    ]

pub returns-clause-found : goal.returns-clause-found
returns-clause-found c = λ l some. c.loop-node.invariant.tabled.units l (omega (arith, c.loop-node-test.false, c.nodes-node-items.ensures.count, terms_in c.args.tree.now.nodes l some)) some
