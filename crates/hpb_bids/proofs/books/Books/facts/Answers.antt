use Rattle.hpb_bids.proofs.Tables.{kept_view}
use Rattle.hpb_bids.proofs.books.Books.facts.Goals as goal

pub returns : goal.returns
returns c = kept_view c.self.inside c.args.self.now c.self.view_is c.self.invariant
