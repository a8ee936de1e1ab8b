use Rattle.std.proofs.Common.{◌∙◌, ap, arith, subst, List, sym}
use mathlib.Core.List.{IsPrefix}
use Rattle.hpb_rules.specs.declared.letter.Letter.{Letter}
use Rattle.hpb_board.specs.declared.board.Content.{Content}
use Rattle.hpb_board.proofs.Keeping.{less_begins}
use Rattle.hpb_board.proofs.viewer.take_over.Goals as goal

pub learn-requires : goal.learn-requires
learn-requires c = sym (ap (λ t. t.book) c.again-both.ensures ∙ c.requires.one.first.0)

pub catch_up-requires-clause-later : goal.catch_up-requires-clause-later
catch_up-requires-clause-later c =
    less_begins c.args.own.now c.args.board.now (ap (λ t. t.log) c.again-both.ensures) c.learn.ensures.2 c.learn.ensures.3 (omega (arith, c.if-own-board.true))

pub returns-then-own-board-clause-later : goal.returns-then-own-board-clause-later
returns-then-own-board-clause-later c =
    let own = c.args.own.now in
    let e = ap (λ (x : Content). x.trail.log) (sym c.catch_up.ensures) in
    let begins = less_begins own c.args.board.now (ap (λ t. t.log) c.again-both.ensures) c.learn.ensures.2 c.learn.ensures.3 (omega (arith, c.if-own-board.true)) in
    subst (λ (l : List (List Letter)). IsPrefix own.trail.log l) e begins
