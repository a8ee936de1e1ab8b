use Rattle.std.proofs.Common.{◌/◌, ◌++◌, take, sym, ap, ◌∙◌, arith}
use Rattle.itoa.proofs.Decimal.{decimal_two}
use Rattle.hpb_wire.proofs.Decimals.{two_behind}
use Rattle.hpb_wire.proofs.decimal.put_short.Goals as goal

pub returns-then-number-lt100-clause-written : goal.returns-then-number-lt100-clause-written
returns-then-number-lt100-clause-written c =
    c.put_piece-then-number-lt100.ensures.written
    ∙ ap (λ xs. take c.args.at c.args.bytes.now ++ xs) (c.two_digits.ensures ∙ sym (decimal_two c.args.number c.if-number-lt10.false c.if-number-lt100.true))

pub returns-then-number-lt1000-clause-written : goal.returns-then-number-lt1000-clause-written
returns-then-number-lt1000-clause-written c =
    two_behind _ _ _ _ c.args.number c.if-number-lt100.false (omega arith)
    (c.put_piece-then-number-lt1000.ensures.written ∙ ap (λ xs. xs ++ c.two_digits-then-number-lt1000.result) c.put_piece-next.ensures.written)
    c.one_digit-then-number-lt1000.ensures c.two_digits-then-number-lt1000.ensures

pub returns-clause-written : goal.returns-clause-written
returns-clause-written c =
    two_behind _ _ _ _ c.args.number c.if-number-lt100.false (omega arith)
    (c.put_piece-2.ensures.written ∙ ap (λ xs. xs ++ c.two_digits-3.result) c.put_piece-next-2.ensures.written)
    (c.two_digits-2.ensures ∙ sym (decimal_two (c.args.number / 100) (omega (arith, c.if-number-lt1000.false)) (omega (arith, c.requires.short)))) c.two_digits-3.ensures
