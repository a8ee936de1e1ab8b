use Rattle.std.proofs.Common.{◌≡◌, ℕ, rules, ◌↔◌, IsTrue}
use Rattle.std.specs.Prelude.{All}
use Rattle.hpb_bids.proofs.Tables.{quiet_view}
use Rattle.hpb_bids.proofs.books.Books.is_quiet.Goals as goal

pub returns : goal.returns
returns c =
    let e : IsTrue c.all.result ↔ All (λ (m : ℕ). m ≡ 0) c.self.inside.bids.items = search rules in
    quiet_view c.self.inside.nodes.items c.self.inside.bids.items c.args.self.now c.all.result c.self.view_is e
