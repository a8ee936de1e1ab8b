use Rattle.std.proofs.Common.{◌<◌, Some, length, refl, subst, ◌∙◌, arith}
use Rattle.hpb_bids.specs.View.{bid_of}
use Rattle.hpb_winners.specs.Places.{IsGreatestTaken}
use Rattle.hpb_winners.proofs.Along.{Along, along_outcome, along_winners, along_count}
use Rattle.hpb_winners.proofs.Walking.{walk_start, walk_within, walk_few, walk_part, walk_top, walk_done, walk_smaller}
use Rattle.hpb_winners.proofs.winners.upward_along.Goals.{In-Some, In-Some-renew, In_default}
use Rattle.hpb_winners.proofs.winners.upward_along.Goals as goal

taken : (c : In-Some) → IsGreatestTaken c.loop-place.pending (Some c.in-Some.place) c.take_greatest.new.mask
taken c = subst (λ place. IsGreatestTaken c.loop-place.pending place c.take_greatest.new.mask) c.in-Some.is c.take_greatest.ensures

within : (c : In-Some) → c.in-Some.place < length c.args.tree.now.nodes
within c = walk_within c.args.tree.now.nodes (bid_of c.args.books.now) c.args.changed c.facts.ensures.tree c.loop-place.invariant (taken c) refl

pub loop-place-init : goal.loop-place-init
loop-place-init c =
    walk_start c.args.tree.now.nodes (bid_of c.args.books.now) c.args.changed c.facts.ensures.tree c.requires c.begin.ensures c.facts-2.ensures.insides c.facts-2.ensures.count
    (length c.nodes-nodes.result.now) c.first_bits-pending.result c.nodes-nodes.ensures.count c.first_bits-pending.ensures.bits c.first_bits-pending.ensures.within

pub bounds-nodes-place : goal.bounds-nodes-place
bounds-nodes-place c = omega (arith, within (goal.at.bounds-nodes-place c).In-Some, c.nodes-nodes.ensures.count)

-- the node at the place
pub renew-requires-clause-node : goal.renew-requires-clause-node
renew-requires-clause-node c = let some = (goal.at.renew-requires-clause-node c).In-Some in omega (arith, within some, c.index-nodes-place.is, c.nodes-nodes.ensures.each c.in-Some.place c.index-nodes-place.result (within some))

pub renew-requires-clause-few : goal.renew-requires-clause-few
renew-requires-clause-few c = walk_few c.args.tree.now.nodes (bid_of c.args.books.now) c.args.changed c.facts.ensures.tree c.loop-place.invariant (taken (goal.at.renew-requires-clause-few c).In-Some) refl c.facts.ensures.most_nodes

pub loop-place-smaller-in-Some-renew : goal.loop-place-smaller-in-Some-renew
loop-place-smaller-in-Some-renew c =
    walk_smaller c.args.tree.now.nodes (bid_of c.args.books.now) c.args.changed c.facts.ensures.tree c.loop-place.invariant (taken (goal.at.loop-place-smaller-in-Some-renew c).In-Some)
    (c.index-nodes-place.is ∙ c.nodes-nodes.ensures.each c.in-Some.place c.index-nodes-place.result (within (goal.at.loop-place-smaller-in-Some-renew c).In-Some))
    c.renew.ensures.parent c.in-Some-renew.is c.place.ensures.value (omega arith)

pub loop-place-preserved-in-Some-renew : goal.loop-place-preserved-in-Some-renew
loop-place-preserved-in-Some-renew c =
    walk_part c.args.tree.now.nodes (bid_of c.args.books.now) c.args.changed c.facts.ensures.tree c.loop-place.invariant (taken (goal.at.loop-place-preserved-in-Some-renew c).In-Some)
    (c.index-nodes-place.is ∙ c.nodes-nodes.ensures.each c.in-Some.place c.index-nodes-place.result (within (goal.at.loop-place-preserved-in-Some-renew c).In-Some)) c.facts.ensures.most_nodes
    c.renew.ensures.parent c.renew.ensures.sums c.renew.ensures.small c.renew.ensures.value c.renew.ensures.others c.renew.ensures.formed c.renew.ensures.parents
    c.in-Some-renew.is c.place.ensures.value (omega arith)

pub loop-place-preserved : goal.loop-place-preserved
loop-place-preserved c =
    walk_top c.args.tree.now.nodes (bid_of c.args.books.now) c.args.changed c.facts.ensures.tree c.loop-place.invariant (taken (goal.at.loop-place-preserved c).In-Some)
    (c.index-nodes-place.is ∙ c.nodes-nodes.ensures.each c.in-Some.place c.index-nodes-place.result (within (goal.at.loop-place-preserved c).In-Some)) c.facts.ensures.most_nodes
    c.renew.ensures.parent c.renew.ensures.sums c.renew.ensures.small c.renew.ensures.value c.renew.ensures.others c.renew.ensures.formed c.renew.ensures.parents
    c.in_default-renew.is

done : (c : In_default) → Along c.args.tree.now.nodes (bid_of c.args.books.now) c.args.changed 0 c.loop-place.invariant.asked c.loop-place.outcome
done c = walk_done c.args.tree.now.nodes (bid_of c.args.books.now) c.args.changed c.facts.ensures.tree c.loop-place.invariant (subst (λ place. IsGreatestTaken c.loop-place.pending place c.take_greatest.new.mask) c.in_default.is c.take_greatest.ensures)

pub returns-clause-outcome : goal.returns-clause-outcome
returns-clause-outcome c =
    along_outcome c.args.tree.now.nodes (bid_of c.args.books.now) c.args.changed c.facts.ensures.tree (done (goal.at.returns-clause-outcome c).In_default) refl c.facts.ensures.most_nodes c.facts-3.ensures.before c.facts-3.ensures.wins

pub returns-clause-winners : goal.returns-clause-winners
returns-clause-winners c =
    along_winners c.args.tree.now.nodes (bid_of c.args.books.now) c.args.changed c.facts.ensures.tree (done (goal.at.returns-clause-winners c).In_default) refl c.facts.ensures.most_nodes c.facts-3.ensures.before c.facts-3.ensures.wins

pub returns-clause-formed : goal.returns-clause-formed
returns-clause-formed c =
    along_count c.args.tree.now.nodes (bid_of c.args.books.now) c.args.changed c.facts.ensures.tree (done (goal.at.returns-clause-formed c).In_default) refl c.facts.ensures.most_nodes c.facts-3.ensures.before c.facts-3.ensures.wins
