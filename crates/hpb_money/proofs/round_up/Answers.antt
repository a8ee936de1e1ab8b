use Rattle.std.proofs.Common.{arith}
use Rattle.hpb_money.proofs.Rounding.{multiple_of, multiple_least}
use Rattle.hpb_money.proofs.round_up.Goals as goal

pub returns-then-step-eq1-clause-multiple : goal.returns-then-step-eq1-clause-multiple
returns-then-step-eq1-clause-multiple c = (c.args.amount, rw c.if-step-eq1.true (omega arith))

pub returns-else-step-eq1-clause-multiple : goal.returns-else-step-eq1-clause-multiple
returns-else-step-eq1-clause-multiple c = multiple_of _ _ c.next_multiple_of.ensures.multiple

pub returns-else-step-eq1-clause-least : goal.returns-else-step-eq1-clause-least
returns-else-step-eq1-clause-least c = λ q h. multiple_least c.args.amount c.next_multiple_of.result c.args.step q c.requires.step c.next_multiple_of.ensures.multiple c.next_multiple_of.ensures.upper_bound h
