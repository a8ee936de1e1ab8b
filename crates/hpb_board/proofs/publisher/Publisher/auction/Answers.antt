use Rattle.std.proofs.Common.{◌≡◌, ◌∙◌, ap, subst}
use Rattle.left_right.specs.Sides.{view}
use Rattle.hpb_board.specs.Publication.{Publishing, published}
use Rattle.hpb_rules.specs.Fronts.{joined}
use Rattle.hpb_board.specs.Rows.{begun}
use Rattle.hpb_board.specs.Views.{opened_of}
use Rattle.hpb_board.specs.declared.board.Board.{Board}
use Rattle.hpb_board.specs.declared.board.Shown.{Shown}
use Rattle.hpb_board.proofs.Keeping.{shown_is}
use Rattle.hpb_board.proofs.Values.{auction_by}
use Rattle.hpb_board.proofs.publisher.Publisher.auction.Goals as goal

pub returns : goal.returns
returns g c =
    let p = c.self.inside in
    let x = p.writer.desk.shown.value in
    let v = view p.writer.desk.place in
    let r = c.self.invariant.0 in
    let is = shown_is x p.trail.book (opened_of v) v r.knows r.fits in
    ap (λ (b : Board). b.auction) c.published.ensures
    ∙ subst (λ (w : Publishing). x.auction ≡ published w) c.self.view_is (ap (λ (s : Shown). s.auction) is ∙ auction_by (joined x.trail.log) (begun (opened_of v)))
