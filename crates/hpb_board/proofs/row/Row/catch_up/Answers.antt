use Rattle.std.proofs.Common.{◌≡◌, ◌∙◌, ◌+◌, Some, None, ap, arith, subst, sym}
use Rattle.hpb_board.specs.Rows.{told, noted, GoesOn}
use Rattle.hpb_board.specs.declared.row.Row.{Row}
use Rattle.hpb_board.proofs.Later.{goes_up, goes_same, goes_next}
use Rattle.hpb_board.proofs.row.Row.catch_up.Goals as goal

pub overflow_sub-later : goal.overflow_sub-later
overflow_sub-later c = goes_up c.args.self.now c.args.later.now c.requires

pub unreachable-requires : goal.unreachable-requires
unreachable-requires c =
    let r = c.loop-number.self in
    let later = c.args.later.now in
    let i = c.loop-number.invariant in
    let next = goes_next r later i.0 (omega (arith, i.1, c.loop-number-test.true)) (omega (arith, i.1, i.2)) in
    let said : None ≡ Some next.0 = sym c.in-None.is ∙ (c.recent.ensures ∙ (ap (λ n. told later (n + 1)) (sym i.1) ∙ next.1)) in
    absurd (cc said)

pub loop-number-preserved : goal.loop-number-preserved
loop-number-preserved c =
    let r = c.loop-number.self in
    let later = c.args.later.now in
    let i = c.loop-number.invariant in
    let next = goes_next r later i.0 (omega (arith, i.1, c.loop-number-test.true)) (omega (arith, i.1, i.2)) in
    let said : Some c.in-Some.answer ≡ Some next.0 = sym c.in-Some.is ∙ (c.recent.ensures ∙ (ap (λ n. told later (n + 1)) (sym i.1) ∙ next.1)) in
    let same : c.in-Some.answer ≡ next.0 = cc said in
    let new : noted r next.0 ≡ c.note.new.self = ap (noted r) (sym same) ∙ sym c.note.ensures in (
      subst (λ (q : Row). GoesOn q later) new next.2,
      ap (λ (q : Row). q.count) (sym new) ∙ (next.3 ∙ ap (λ n. n + 1) i.1),
      omega (arith, i.2),
    )

pub returns : goal.returns
returns c =
    let i = c.loop-number.invariant in
    goes_same c.loop-number.self c.args.later.now i.0 (omega (arith, i.1, goes_up c.loop-number.self c.args.later.now i.0, c.loop-number-test.false))
