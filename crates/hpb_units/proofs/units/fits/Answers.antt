use Rattle.std.proofs.Common.{◌≡◌, ◌∙◌, ◌||◌, rules}
use Rattle.hpb_rules.specs.Tree.{at_or_under, units_at}
use Rattle.hpb_units.specs.Activity.{held, activity_with}
use Rattle.hpb_units.proofs.Counting.{sum_over_same}
use Rattle.hpb_units.proofs.Masks.{with_in_mask}
use Rattle.hpb_units.proofs.units.fits.Goals as goal

pub returns : goal.returns
returns c =
    let nodes = c.args.tree.now.nodes in
    let test = held nodes c.args.books.now c.args.outcome.now c.args.bidder in
    let exact : c.units_of.result ≡ activity_with nodes c.args.books.now c.args.outcome.now c.args.bidder c.args.node
    = c.units_of.ensures ∙ sum_over_same nodes _ (λ l. test l || at_or_under nodes c.args.node l) (units_at nodes) (with_in_mask nodes test c.licences_held.result c.licences_held.ensures c.licences.ensures) in
    rw (← exact) (search rules)
