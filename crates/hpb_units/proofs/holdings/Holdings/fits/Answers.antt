use Rattle.std.proofs.Common.{◌≡◌, ◌||◌, ap, ◌∙◌, rules}
use Rattle.hpb_rules.specs.Tree.{at_or_under, units_at}
use Rattle.hpb_units.specs.Activity.{held, activity_with}
use Rattle.hpb_units.specs.Holdings.{holds}
use Rattle.hpb_units.proofs.Counting.{sum_over_same}
use Rattle.hpb_units.proofs.holdings.Holdings.fits.Goals as goal

pub returns : goal.returns
returns c = λ books outcome are.
    let nodes = c.args.tree.now.nodes in
    let exact : c.units_with.result ≡ activity_with nodes books outcome c.args.bidder c.args.node
    = c.units_with.ensures.value ∙ sum_over_same nodes (λ l. holds nodes c.args.self.now c.args.bidder l || at_or_under nodes c.args.node l) (λ l. held nodes books outcome c.args.bidder l || at_or_under nodes c.args.node l) (units_at nodes)
    (λ l some. ap (λ b. b || at_or_under nodes c.args.node l) (are.licences c.args.bidder l c.units_with.ensures.within some)) in
    rw (← exact) (search rules)
