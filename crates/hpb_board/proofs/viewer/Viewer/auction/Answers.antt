use Rattle.std.proofs.Common.{◌≡◌, ◌∙◌, ap, subst}
use Rattle.left_right.specs.Sides.{view}
use Rattle.hpb_board.specs.Publication.{Viewing, auction_of}
use Rattle.hpb_rules.specs.Fronts.{joined}
use Rattle.hpb_board.specs.Rows.{begun}
use Rattle.hpb_board.specs.Views.{opened_of}
use Rattle.hpb_board.specs.declared.board.Shown.{Shown}
use Rattle.hpb_board.proofs.Keeping.{shown_is}
use Rattle.hpb_board.proofs.Values.{auction_by}
use Rattle.hpb_board.proofs.viewer.Viewer.auction.Goals as goal

pub returns : goal.returns
returns c =
    let x = c.self.inside.ends.own in
    let v = view c.self.inside.ends.reader.place in
    let is = shown_is x x.trail.book (opened_of v) v c.self.invariant.0 c.self.invariant.1 in
    subst (λ (w : Viewing). x.auction ≡ auction_of w) c.self.view_is (ap (λ (s : Shown). s.auction) is ∙ auction_by (joined x.trail.log) (begun (opened_of v)))
