use Rattle.std.proofs.Common.{◌≡◌, ◌^◌, ◌<◌, Some, length, refl, sym, ap, ◌∙◌, arith, subst}
use Rattle.hpb_rules.specs.History.{is_of}
use Rattle.hpb_winners.specs.Places.{IsGreatestTaken}
use Rattle.hpb_units.specs.Holdings.{AreLicenceUnits}
use Rattle.hpb_units.proofs.Won.{won_start, won_within, won_more, won_none, won_all}
use Rattle.hpb_units.proofs.holdings.Holdings.find_won.Goals.{In-Some, After-standing}
use Rattle.hpb_units.proofs.holdings.Holdings.find_won.Goals as goal

taken : (c : In-Some) → IsGreatestTaken c.loop-place.winners (Some c.in-Some.place) c.take_greatest.new.mask
taken c = subst (λ place. IsGreatestTaken c.loop-place.winners place c.take_greatest.new.mask) c.in-Some.is c.take_greatest.ensures

within : (c : In-Some) → c.in-Some.place < length c.args.tree.now.nodes
within c = won_within c.args.tree.now.nodes c.args.books.now c.args.outcome.now c.loop-place.invariant (taken c) refl

pub loop-place-init : goal.loop-place-init
loop-place-init c =
    won_start c.args.tree.now.nodes c.args.books.now c.args.outcome.now c.clear.new.self c.first_bits-winners.result c.clear.ensures.nothing (subst (AreLicenceUnits c.args.tree.now.nodes) (sym c.clear.ensures.same_licence_units) c.requires.units)
    (λ n h. c.first_bits-winners.ensures.bits n (omega (arith, h, c.nodes-nodes.ensures.count)) ∙ c.requires.winners n)
    (subst (λ k. c.first_bits-winners.result < 2 ^ k) c.nodes-nodes.ensures.count c.first_bits-winners.ensures.within)

pub bounds-nodes-place : goal.bounds-nodes-place
bounds-nodes-place c = omega (arith, within (goal.at.bounds-nodes-place c).In-Some, c.nodes-nodes.ensures.count)

-- the node at the place
here : (c : After-standing) → c.index-nodes-place.result ≡ c.in-Some.place
here c = c.index-nodes-place.is ∙ c.nodes-nodes.ensures.each c.in-Some.place c.index-nodes-place.result (within (goal.at.After-standing c).In-Some)

pub add-requires-clause-node : goal.add-requires-clause-node
add-requires-clause-node c = omega (arith, within (goal.at.add-requires-clause-node c).In-Some, here (goal.at.add-requires-clause-node c).After-standing)

pub loop-place-preserved-in-Some-standing : goal.loop-place-preserved-in-Some-standing
loop-place-preserved-in-Some-standing c =
    won_more c.args.tree.now.nodes c.args.books.now c.args.outcome.now c.loop-place.invariant (taken (goal.at.loop-place-preserved-in-Some-standing c).In-Some) (here (goal.at.loop-place-preserved-in-Some-standing c).After-standing)
    c.in-Some-standing.offer.bidder (λ b. ap (is_of b) (sym c.standing.ensures.value ∙ c.in-Some-standing.is)) c.add.ensures.more c.add.ensures.summed

pub loop-place-preserved : goal.loop-place-preserved
loop-place-preserved c =
    won_none c.args.tree.now.nodes c.args.books.now c.args.outcome.now c.loop-place.invariant (taken (goal.at.loop-place-preserved c).In-Some) (here (goal.at.loop-place-preserved c).After-standing)
    (sym c.standing.ensures.value ∙ c.in_default-standing.is)

pub returns : goal.returns
returns c =
    won_all c.args.tree.now.nodes c.args.books.now c.args.outcome.now c.requires.quiet
    (subst (λ place. IsGreatestTaken c.loop-place.winners place c.take_greatest.new.mask) c.in_default.is c.take_greatest.ensures) c.loop-place.invariant
