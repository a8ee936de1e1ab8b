use Rattle.hpb_rules.proofs.TreeLaws.{cover_proves}
use Rattle.hpb_prices.specs.Certificate.{bid_listed, price_listed, set_of}
use Rattle.hpb_prices.proofs.certificate.check_certificate.Goals as goal

pub returns-clause-best : goal.returns-clause-best
returns-clause-best c = λ yes other is.
    let certificate = c.is_certificate.ensures.0 yes in
    cover_proves c.args.tree.now.nodes (bid_listed c.args.highs.now) (price_listed c.args.tree.now.nodes c.args.prices.now) (set_of c.args.tree.now.nodes c.args.winners) other certificate.covers certificate.choice certificate.sums is
