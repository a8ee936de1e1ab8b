use Rattle.std.proofs.Common.{◌∙◌}
use Rattle.hpb_serve.proofs.Written.{stopped}
use Rattle.hpb_serve.proofs.announcing.announce.Goals as goal

pub returns-clause-written : goal.returns-clause-written
returns-clause-written g c = stopped g.row.D.Denot _ _ _ _ (c.as_bytes.ensures.value ∙ c.in_ok-line.ensures.ok) c.in-Err.ensures.bytes
