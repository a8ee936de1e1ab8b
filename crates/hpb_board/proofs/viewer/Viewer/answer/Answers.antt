use Rattle.std.proofs.Common.{◌<◌, ◌∙◌, ap, sym, subst, arith}
use Rattle.left_right.specs.Sides.{view}
use Rattle.hpb_board.specs.Publication.{Viewing, answers_of, recent, IsRoomy}
use Rattle.hpb_rules.specs.Fronts.{joined}
use Rattle.hpb_board.specs.Rows.{told, blank}
use Rattle.hpb_board.specs.Views.{opened_of}
use Rattle.hpb_board.specs.declared.board.Shown.{Shown}
use Rattle.hpb_board.specs.declared.row.Row.{Row}
use Rattle.hpb_board.proofs.Keeping.{shown_is}
use Rattle.hpb_board.proofs.Recent.{answer_is, length_answers}
use Rattle.hpb_board.proofs.viewer.Viewer.answer.Goals as goal

pub index-requires : goal.index-requires
index-requires c =
    let x = c.self.inside.ends.own in
    let v = view c.self.inside.ends.reader.place in
    let rows = ap (λ (s : Shown). s.rows) (shown_is x x.trail.book (opened_of v) v c.self.invariant.0 c.self.invariant.1) in
    let inside = subst (λ (w : Viewing). c.args.seat < w.seats) (sym c.self.view_is) c.requires.seat in
    let lt = (answer_is x.rows.items (opened_of v) (joined x.trail.log) c.args.seat c.args.number blank rows inside (x.roomy c.args.seat)).0 in
    omega (arith, lt, x.rows.ok)

pub returns-clause-few : goal.returns-clause-few
returns-clause-few c =
    let w = c.args.self.now in
    let few = subst (λ (w : Viewing). IsRoomy w.list) c.self.view_is c.self.inside.ends.own.roomy c.args.seat in
    let e = length_answers c.args.seat w.opened (joined w.list) in
    omega (arith, few, e)

pub returns-clause-recent : goal.returns-clause-recent
returns-clause-recent c =
    let x = c.self.inside.ends.own in
    let v = view c.self.inside.ends.reader.place in
    let rows = ap (λ (s : Shown). s.rows) (shown_is x x.trail.book (opened_of v) v c.self.invariant.0 c.self.invariant.1) in
    let inside = subst (λ (w : Viewing). c.args.seat < w.seats) (sym c.self.view_is) c.requires.seat in
    let row = c.index.result.now in
    let tells = (answer_is x.rows.items (opened_of v) (joined x.trail.log) c.args.seat c.args.number row rows inside (x.roomy c.args.seat)).1 in
    c.recent.ensures ∙ (ap (λ (r : Row). told r c.args.number) c.index.ensures ∙ (tells ∙ ap (λ (w : Viewing). recent (answers_of c.args.seat w) c.args.number) c.self.view_is))
