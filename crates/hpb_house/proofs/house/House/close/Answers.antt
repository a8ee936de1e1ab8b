use Rattle.std.proofs.Common.{◌∙◌, All, ap, sym, subst}
use Rattle.hpb_board.specs.Publication.{Viewing}
use Rattle.hpb_rings.specs.declared.report.Report.{Report}
use Rattle.hpb_house.specs.Boards.{SameBoard}
use Rattle.hpb_house.proofs.Leaving.{gives_for}
use Rattle.hpb_house.proofs.Totals.{apart_after, board_after}
use Rattle.hpb_house.proofs.Whose.{apart, on_board}
use Rattle.hpb_house.proofs.house.House.close.Goals as goal

pub settle-settled-requires-clause-board : goal.settle-settled-requires-clause-board
settle-settled-requires-clause-board g c =
    subst (λ (v : Viewing). All (λ (r : Report). SameBoard v r.viewer) c.args.reports.now) (sym c.self.invariant.0)
    (on_board g.J.Naming.eye g.J.Naming.clients g.J.Naming.eye.seats c.self.invariant.2 c.args.reports.now c.requires.clients)

-- the reports follow the keeper's board after the last view too
pub leave-left-requires : goal.leave-left-requires
leave-left-requires g c = λ i d lt.
    let on = on_board g.J.Naming.eye g.J.Naming.clients g.J.Naming.eye.seats c.self.invariant.2 c.args.reports.now c.requires.clients in
    (board_after g.J.Naming.eye c.settle-settled.ensures.viewed on i d lt).0 ∙ sym c.keeper-keeper.ensures.own.book

-- the house's viewer began with what the keeper's board did
pub returns-in-Ok-clause-closed : goal.returns-in-Ok-clause-closed
returns-in-Ok-clause-closed g c =
    let own = c.keeper-keeper.ensures.own in
    let left = c.leave-left.ensures in
    let seen = ap (λ (v : Viewing). v.opened) (sym c.self.view_is) in
    let opened = seen ∙ (ap (λ (v : Viewing). v.opened) c.self.invariant.0 ∙ sym own.auction) in
    let alone = apart g.J.Naming.eye g.J.Naming.clients g.J.Naming.eye.seats c.self.invariant.2 c.args.reports.now c.requires.clients in
    record {
      agree = rw (seen, left.same.0, left.list.0) c.in-Ok.ensures.agree;
      once = c.in-Ok.ensures.agree.once (apart_after c.in-Ok.ensures.viewed alone);
      rest = rw (left.same.1, left.same.2) c.in-Ok.ensures.rest;
      back = rw opened (gives_for own.image own.before left.back);
    }

pub returns-clause-unsettled : goal.returns-clause-unsettled
returns-clause-unsettled g c =
    let own = c.keeper-keeper.ensures.own in
    let left = c.leave-left.ensures in
    let seen = ap (λ (v : Viewing). v.opened) (sym c.self.view_is) in
    let opened = seen ∙ (ap (λ (v : Viewing). v.opened) c.self.invariant.0 ∙ sym own.auction) in
    record {
      counts = rw (seen, left.same.0, left.list.0) c.in-Err.ensures.counts;
      only = rw (left.same.0, left.same.1, left.same.2) c.in-Err.ensures.only;
      back = rw opened (gives_for own.image own.before left.back);
    }
