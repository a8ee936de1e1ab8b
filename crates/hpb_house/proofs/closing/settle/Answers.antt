use Rattle.std.proofs.Common.{rules, ◌≡◌, ◌∙◌, ap, sym, arith}
use Rattle.std.specs.Prelude.{◌-◌}
use Rattle.hpb_rules.specs.AuctionValue.{AuctionValue}
use Rattle.hpb_rules.specs.Fronts.{joined}
use Rattle.hpb_rules.specs.Judging.{value_by}
use Rattle.hpb_house.proofs.Histories.{list_counted}
use Rattle.hpb_house.proofs.closing.settle.Goals as goal

-- the numbers if a batch is in flight
pub returns-then-not-has_failed-clause-counts : goal.returns-then-not-has_failed-clause-counts
returns-then-not-has_failed-clause-counts g c =
    let board = c.args.keeper.now.board in
    let opened = c.args.eye.now.opened in
    let auction = c.args.keeper.now.progress.committed in
    let leads : auction ≡ value_by opened (joined board.list) = sym c.facts.ensures.shown ∙ ap (λ (v : AuctionValue). value_by v (joined board.list)) c.requires.keeper.1 in
    let long = list_counted opened auction board.list leads in
    let committed : c.count.result.committed ≡ auction.count - opened.count = search rules in
    record { accepted = c.count.ensures.accepted; committed = committed; since = omega (arith, long, committed) }
