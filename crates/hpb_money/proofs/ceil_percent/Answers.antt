use Rattle.hpb_money.proofs.Rounding.{percent_enough, percent_least}
use Rattle.hpb_money.proofs.ceil_percent.Goals as goal

pub returns-clause-enough : goal.returns-clause-enough
returns-clause-enough c = rw c.div_ceil.ensures (percent_enough c.args.amount c.args.percent)

pub returns-clause-least : goal.returns-clause-least
returns-clause-least c = λ x h. rw c.div_ceil.ensures (percent_least c.args.amount c.args.percent x h)
