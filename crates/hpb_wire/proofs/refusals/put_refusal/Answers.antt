use Rattle.std.proofs.Common.{arith}
use Rattle.itoa.proofs.Decimal.{decimal_two}
use Rattle.hpb_wire.proofs.refusals.put_refusal.Goals as goal

pub returns-in-Eligibility-clause-written : goal.returns-in-Eligibility-clause-written
returns-in-Eligibility-clause-written c = rw (c.in-Eligibility.is, decimal_two 25 (omega arith) (omega arith)) c.put_piece-in-Eligibility.ensures.written

pub returns-in-Unformatted-clause-written : goal.returns-in-Unformatted-clause-written
returns-in-Unformatted-clause-written c = rw (c.in-Unformatted.is, decimal_two 40 (omega arith) (omega arith)) c.put_piece-in-Unformatted.ensures.written

pub returns-in-Checkpoint-clause-written : goal.returns-in-Checkpoint-clause-written
returns-in-Checkpoint-clause-written c = rw (c.in-Checkpoint.is, decimal_two 44 (omega arith) (omega arith)) c.put_piece-in-Checkpoint.ensures.written
