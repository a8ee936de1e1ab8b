use Rattle.std.proofs.Common.{◌≡◌, ◌∙◌, ap, subst, List, IsTrue}
use Rattle.std.specs.Prelude.{◌↔◌}
use Rattle.left_right.specs.Sides.{view}
use Rattle.hpb_rules.specs.declared.letter.Letter.{Letter}
use Rattle.hpb_board.specs.Publication.{Publishing, HasRoom}
use Rattle.hpb_board.specs.Rows.{HaveRoom}
use Rattle.hpb_board.specs.Views.{opened_of}
use Rattle.hpb_board.specs.declared.board.Board.{Board}
use Rattle.hpb_board.specs.declared.board.Shown.{Shown}
use Rattle.hpb_board.proofs.Keeping.{shown_is}
use Rattle.hpb_board.proofs.Rooms.{room_is}
use Rattle.hpb_board.proofs.publisher.Publisher.room.Goals as goal

pub returns : goal.returns
returns g c =
    let p = c.self.inside in
    let x = p.writer.desk.shown.value in
    let v = view p.writer.desk.place in
    let r = c.self.invariant.0 in
    let letters = c.args.letters.now in
    let shown = ap (λ (s : Shown). s.rows) (shown_is x p.trail.book (opened_of v) v r.knows r.fits) in
    let rows : c.as_slice.result.now ≡ x.rows.items = c.as_slice.ensures.value ∙ ap (λ (b : Board). b.rows.items) c.published.ensures in
    let is = room_is c.as_slice.result.now (opened_of v) x.trail.log letters (rows ∙ shown) x.roomy in
    let has = subst (λ (w : Publishing). HaveRoom c.as_slice.result.now letters ↔ HasRoom w.seats w.list letters) c.self.view_is is in
    let have = subst (λ (ls : List Letter). IsTrue c.have_room.result ↔ HaveRoom c.as_slice.result.now ls) c.as_slice-2.ensures.value c.have_room.ensures in
    (λ yes. has.0 (have.0 yes), λ room. have.1 (has.1 room))
