use Rattle.std.proofs.Common.{◌≡◌, ◌∷◌, ◌++◌, [], ◌∙◌, ap, arith, sym, subst, List, length, length-append, drop}
use Rattle.left_right.specs.Sides.{view}
use Rattle.hpb_rules.specs.declared.letter.Letter.{Letter}
use Rattle.hpb_board.specs.Publication.{Publishing, IsRoomy}
use Rattle.hpb_board.specs.Trails.{head_of}
use Rattle.hpb_board.proofs.Keeping.{prepares, whole_trail}
use Rattle.hpb_board.proofs.Rooms.{roomy_after}
use Rattle.hpb_board.proofs.publisher.Publisher.prepare.Goals as goal

pub invariant_of-batch-clause-roomy : goal.invariant_of-batch-clause-roomy
invariant_of-batch-clause-roomy g c =
    let p = c.self.inside in
    let now = c.args.self.now in
    let letters = c.args.letters.now in
    let none = ap (λ (v : Publishing). v.pending) c.self.view_is ∙ c.requires.none in
    let whole = whole_trail p.writer.desk.shown.value (view p.writer.desk.place) (drop p.writer.behind p.writer.log.items) p.trail.book p.trail.log c.self.invariant.0 none in
    let old = ap (λ t. t.log) c.again-next.ensures ∙ (whole ∙ ap (λ (v : Publishing). v.list) c.self.view_is) in
    let e = ap (λ t. t.log) c.again.ensures ∙ (c.if-not-append.ensures.log ∙ ap (λ (l : List (List Letter)). l ++ letters ∷ []) old) in
    let roomy = subst (λ (v : Publishing). IsRoomy v.list) c.self.view_is p.writer.desk.shown.value.roomy in
    subst IsRoomy (sym e) (roomy_after now.seats now.list letters roomy c.requires.seats c.requires.room)

pub invariant_of-self-2 : goal.invariant_of-self-2
invariant_of-self-2 g c =
    let p = c.self.inside in
    let w = p.writer in
    let letters = c.args.letters.now in
    let book : c.append.new.trail.book ≡ p.trail.book = c.if-not-append.ensures.book ∙ ap (λ t. t.book) c.again-next.ensures in
    let log : c.append.new.trail.log ≡ p.trail.log ++ letters ∷ []
    = c.if-not-append.ensures.log ∙ ap (λ t. t.log ++ letters ∷ []) c.again-next.ensures in
    let next = ap (λ t. t.log) c.again.ensures ∙ (log ∙ ap (λ (l : List Letter). p.trail.log ++ l ∷ []) (sym c.copied.ensures)) in
    let r = prepares w.desk.shown.value (view w.desk.place) (drop w.behind w.log.items) _ _ p.trail.book p.trail.log c.self.invariant.0 c.if-not-put.ensures.pending (ap (λ t. t.book) c.again.ensures ∙ book) next in (
      rw (c.if-not-put.ensures.desk, book, sym (ap (λ t. t.log) c.again.ensures)) r,
      c.self.invariant.1 ∙ ap head_of (sym book),
      omega (arith, c.self.invariant.2, ap length log, length-append p.trail.log (letters ∷ [])),
    )
