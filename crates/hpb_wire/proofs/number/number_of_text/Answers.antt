use Rattle.std.proofs.Common.{sym}
use Rattle.hpb_wire.proofs.Canonical.{too_large, canonical}
use Rattle.hpb_wire.proofs.number.number_of_text.Goals as goal

pub returns-then-number-most-clause-value : goal.returns-then-number-most-clause-value
returns-then-number-most-clause-value c = sym (too_large c.args.most _ c.args.word.now (sym c.in_ok-number.ensures) c.if-number-most.true)

pub returns-clause-value : goal.returns-clause-value
returns-clause-value c = sym (canonical c.args.most _ c.args.word.now (sym c.in_ok-number.ensures) c.if-number-most.false (sym c.if-has_front_zero.ensures))
