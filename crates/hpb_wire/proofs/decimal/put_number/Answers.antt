use Rattle.std.proofs.Common.{◌++◌, ap, ◌∙◌, arith}
use Rattle.hpb_wire.proofs.Decimals.{four_behind}
use Rattle.hpb_wire.proofs.decimal.put_number.Goals as goal

pub returns-then-number-lt100000000-clause-written : goal.returns-then-number-lt100000000-clause-written
returns-then-number-lt100000000-clause-written c =
    four_behind _ _ _ _ c.args.number c.if-number-lt10000.false (omega arith)
    (c.put_piece.ensures.written ∙ ap (λ xs. xs ++ c.two_digits-then-number-lt100000000.result) (c.put_piece-last.ensures.written ∙ ap (λ xs. xs ++ c.two_digits.result) c.put_short-next.ensures.written))
    c.two_digits.ensures c.two_digits-then-number-lt100000000.ensures
